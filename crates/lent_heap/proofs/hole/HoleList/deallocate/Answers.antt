use Rattle.std.proofs.Common.{◌≡◌, ◌<◌, ◌∷◌, ◌∙◌, ap, sym, subst, arith}
use Rattle.lent_heap.specs.Region.{Region}
use Rattle.lent_heap.specs.Holes.{released, IsCursor, merged}
use Rattle.lent_heap.proofs.Search.{releases}
use Rattle.lent_heap.proofs.hole.HoleList.deallocate.Goals as goal

pub returns-in-Ok-clause-holes : goal.returns-in-Ok-clause-holes
returns-in-Ok-clause-holes c =
    let r : Region = c.args.self.region in
    let at = c.loop-inserted.cursor in
    let block = c.loop-inserted.block in
    let kept = c.loop-inserted.invariant in
    let put = c.in-Ok.ensures in
    let once = c.try_merge_next in
    let twice = c.try_merge_next-merged in
    let same : twice.result.region ≡ r = twice.ensures.0 ∙ once.ensures.0 ∙ put.0 ∙ kept.0 in
    let from : block.region ≡ r = ap (λ b. b.region) kept.1 ∙ c.requires in
    let above : r.start < block.at = omega (arith, block.placed.1, ap (λ (g : Region). g.start) from) in
    releases r (block.at, block.size) c.args.self.holes at.before at.current at.after c.in-Ok.inserted.after _ _ c.into_list.result.holes above kept.3
    (subst (λ (g : Region). IsCursor g at.before at.current at.after) kept.0 at.sorted) put.3
    (once.ensures.1 ∙ (λ i. merged (put.1 i) (put.2 i) c.in-Ok.inserted.after)) twice.ensures.1
    (ap (λ (g : Region). (g.start, 0) ∷ c.into_list.result.holes) (sym same) ∙ c.into_list.ensures.1)
    ∙ ap (λ b. released (b.at, b.size) c.args.self.holes) kept.1

use Rattle.std.proofs.Common.{◌≡◌, ◌+◌, ◌-◌, ◌<◌, length, ℕ, List, drop, take, sym, ap, subst, ◌∙◌, arith}
use Rattle.chess_tree.specs.steps.Entries.{Entry, entry_at}
use Rattle.chess_tree.specs.steps.Writes.{placed}
use Rattle.chess_tree.proofs.PlacedLemmas.{Renumbering, renumbering_child, renumbering_length, renumbering_on, renumbering_some, renumbering_start}
use Rattle.chess_tree.proofs.arena.siblings.renumber.Goals as goal

pub loop-place-init : goal.loop-place-init
loop-place-init g c = (renumbering_start _ _ _, c.requires.order)

pub child-requires : goal.child-requires
child-requires g c = omega (arith, c.requires.node, renumbering_length _ _ _ _ _ c.loop-place.invariant.0)

pub unreachable-requires : goal.unreachable-requires
unreachable-requires g c = renumbering_some _ _ _ _ _ c.loop-place.invariant.0 (omega (arith, c.loop-place-test.true, c.requires.end)) (sym c.in_default.is ∙ c.child.ensures)

pub set_place-requires : goal.set_place-requires
set_place-requires g c =
    let short : c.loop-place.place < length (entry_at c.args.nodes.now c.args.at).children = omega (arith, c.loop-place-test.true, c.requires.end) in
    omega (arith, renumbering_child _ _ _ _ _ c.loop-place.invariant.0 c.in-Some.child short (sym c.in-Some.is ∙ c.child.ensures), c.requires.children c.loop-place.place short, renumbering_length _ _ _ _ _ c.loop-place.invariant.0)

pub loop-place-preserved : goal.loop-place-preserved
loop-place-preserved g c = (
  subst (λ (x : List Entry). Renumbering c.args.nodes.now x c.args.at c.args.from (c.loop-place.place + 1)) (sym c.set_place.ensures)
      (renumbering_on _ _ _ _ _ c.loop-place.invariant.0 c.in-Some.child (omega (arith, c.loop-place-test.true, c.requires.end)) (sym c.in-Some.is ∙ c.child.ensures)),
  omega (arith, c.loop-place-test.true),
)

pub returns : goal.returns
returns g c =
    let end : c.loop-place.place ≡ c.args.to = omega (arith, c.loop-place-test.false, c.loop-place.invariant.1) in
    c.loop-place.invariant.0.is ∙ ap (λ (x : ℕ). placed c.args.from (take (x - c.args.from) (drop c.args.from (entry_at c.args.nodes.now c.args.at).children)) c.args.nodes.now) end

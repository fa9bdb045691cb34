use Rattle.std.proofs.Common.{◌≡◌, ◌+◌, ◌-◌, ◌≤◌, ◌∙◌, ap, sym, List, subst, arith}
use Rattle.lent_heap.specs.Region.{Region, bottom}
use Rattle.lent_heap.specs.Holes.{Span, total}
use Rattle.lent_heap.proofs.Search.{freed_count}
use Rattle.lent_heap.proofs.Order.{InOrder, order_out}
use Rattle.lent_heap.proofs.Spacing.{Spaced, released_spaced}
use Rattle.lent_heap.proofs.heap.Heap.deallocate.Goals as goal

counts : (c : goal.After-replace_with)
    → (c.with_size-size.result.0 ≤ c.args.self.now.used) × (c.args.self.now.used - c.with_size-size.result.0 + total c.replace_with.new.dest.holes + 16 ≡ c.args.self.now.bytes)
counts c =
    let old = c.args.self.now in
    let new = c.replace_with.new.dest in
    let block = c.with_size-size.result.1 in
    let sized : block.size ≡ c.with_size-size.result.0 = ap (λ b. b.size) c.with_size-size.ensures.1 ∙ sym c.with_size-size.ensures.0 in
    subst (λ n. (n ≤ old.used) × (old.used - n + total new.holes + 16 ≡ old.bytes)) sized
    (freed_count new.region (block.at, block.size) old.holes.holes new.holes old.used old.bytes new.sorted c.replace_with.ensures.1
    (subst (λ (g : Region). g.start + old.bytes ≡ g.end) (sym c.replace_with.ensures.0) old.fits.1) old.counted)

pub overflow_sub-self : goal.overflow_sub-self
overflow_sub-self c = (counts c).0

pub invariant_of-self-clause-counted : goal.invariant_of-self-clause-counted
invariant_of-self-clause-counted c = (counts c).1

pub invariant_of-self-clause-coalesced : goal.invariant_of-self-clause-coalesced
invariant_of-self-clause-coalesced c =
    let got = c.replace_with.ensures in
    let old = c.args.self.now in
    let new = c.replace_with.new.dest in
    let r : Region = new.region in
    let block = c.with_size-size.result.1 in
    let from : block.region ≡ old.holes.region = ap (λ b. b.region) c.with_size-size.ensures.1 ∙ c.requires in
    let sorted = subst (InOrder (r.start + 16) r.end) got.1 (order_out r.start r.end (r.start, 0) new.holes new.sorted).2 in
    subst (λ (u : Region × List Span). Spaced (bottom u.0) u.1) (λ i. (sym got.0 i, sym got.1 i))
    (released_spaced (block.at, block.size) old.holes.holes (bottom old.holes.region) (r.start + 16) r.end
    (subst (λ (g : Region). bottom g ≤ block.at) from block.placed.1) (omega (arith, block.placed.4.0)) old.coalesced sorted)

use Rattle.std.proofs.Common.{◌∙◌, List, ap, sym, subst, arith}
use Rattle.lent_heap.specs.Holes.{total}
use Rattle.lent_heap.proofs.Search.{taken_total, taken_none}
use Rattle.lent_heap.specs.Region.{Region, bottom}
use Rattle.lent_heap.specs.Holes.{Span}
use Rattle.lent_heap.proofs.Spacing.{Spaced, taken_spaced}
use Rattle.lent_heap.proofs.heap.Heap.take.Goals as goal

pub invariant_of-self-clause-counted : goal.invariant_of-self-clause-counted
invariant_of-self-clause-counted c =
    let got = c.in-Some.ensures in
    omega (arith, c.args.self.now.counted, ap total got.1.0, taken_total c.align_size-size.result c.args.self.now.holes.holes got.1.1.0)

pub invariant_of-self-in-None-clause-counted : goal.invariant_of-self-in-None-clause-counted
invariant_of-self-in-None-clause-counted c =
    let got = c.in-None.ensures in
    omega (arith, c.args.self.now.counted, ap total (got.1.0 ∙ taken_none c.align_size-size.result c.args.self.now.holes.holes got.1.1))

pub invariant_of-self-clause-coalesced : goal.invariant_of-self-clause-coalesced
invariant_of-self-clause-coalesced c =
    let got = c.replace_with.ensures in
    let old = c.args.self.now in
    subst (λ (u : Region × List Span). Spaced (bottom u.0) u.1) (λ i. (sym got.0 i, sym got.1.0 i)) (taken_spaced c.align_size-size.result old.holes.holes (bottom old.holes.region) old.coalesced)

pub invariant_of-self-in-None-clause-coalesced : goal.invariant_of-self-in-None-clause-coalesced
invariant_of-self-in-None-clause-coalesced c =
    let got = c.replace_with.ensures in
    let old = c.args.self.now in
    subst (λ (u : Region × List Span). Spaced (bottom u.0) u.1) (λ i. (sym got.0 i, sym got.1.0 i)) (taken_spaced c.align_size-size.result old.holes.holes (bottom old.holes.region) old.coalesced)

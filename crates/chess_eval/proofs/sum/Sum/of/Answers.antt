use Rattle.std.proofs.Common.{◌≡◌, ◌+◌, Some, refl, ap, sym, subst, ◌∙◌, arith}
use Rattle.chess_types.specs.board.Board.{Men, man_at}
use Rattle.chess_eval.specs.steps.Changes.{with_man, AreInRange}
use Rattle.chess_eval.proofs.Evaluations.{sums_below, below_all, below_none, below_man, below_empty, below_in_range}
use Rattle.chess_eval.proofs.sum.Sum.of.Goals as goal
use Rattle.chess_eval.proofs.sum.Sum.of.Goals.{After-get, in-Some, in_default}

-- what is read is what stands on the square of that number
held : (c : After-get) → man_at c.args.placement.now c.loop-number.number ≡ c.get.result
held c = ap (man_at c.args.placement.now) (sym c.from_index-square.ensures) ∙ sym c.get.ensures

pub loop-number-init : goal.loop-number-init
loop-number-init c = c.empty-sum.ensures.zero ∙ sym (below_none (man_at c.args.placement.now))

pub add-requires : goal.add-requires
add-requires c =
    let man_on : Men = man_at c.args.placement.now in
    let here : man_on c.loop-number.number ≡ Some c.in-Some.man = held (goal.at.add-requires c).After-get ∙ c.in-Some.is in
    let next = below_man man_on c.loop-number.number c.in-Some.man here in
    rw (c.loop-number.invariant, c.from_index-square.ensures) (subst AreInRange next (below_in_range man_on (c.loop-number.number + 1) (omega arith)))

pub loop-number-preserved : goal.loop-number-preserved
loop-number-preserved c =
    let man_on : Men = man_at c.args.placement.now in
    let there = held (goal.at.loop-number-preserved c).After-get in
    elim c.match-get.branch [
      | in-Some w ↦
          let with : with_man c.loop-number.sum w.in-Some.man c.from_index-square.result ≡ with_man (sums_below man_on c.loop-number.number) w.in-Some.man c.loop-number.number =
          rw (c.loop-number.invariant, c.from_index-square.ensures) refl in
          w.sum-is ∙ w.add.ensures ∙ with ∙ sym (below_man man_on c.loop-number.number w.in-Some.man (there ∙ w.in-Some.is))
      | in_default w ↦ w.sum-is ∙ c.loop-number.invariant ∙ sym (below_empty man_on c.loop-number.number (there ∙ w.in_default.is))
    ]

pub returns : goal.returns
returns c =
    let man_on : Men = man_at c.args.placement.now in
    let all : sums_below man_on c.loop-number.number ≡ sums_below man_on 64 = ap (sums_below man_on) (omega arith) in
    c.loop-number.invariant ∙ all ∙ below_all man_on

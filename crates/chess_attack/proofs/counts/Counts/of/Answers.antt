use Rattle.std.proofs.Common.{◌≡◌, ◌*◌, ◌+◌, sym, ap, ◌∙◌, subst, arith}
use Rattle.std.specs.Ordering.{nat_cmp}
use Rattle.std.specs.FinMap.{empty, get-empty}
use Rattle.chess_types.specs.board.Board.{Men, man_at}
use Rattle.chess_attack.specs.declared.change.Change.TheVariants.{Raise}
use Rattle.chess_attack.specs.KeptCounts.{AreCounts}
use Rattle.chess_attack.specs.steps.Marks.{Moves, own}
use Rattle.chess_attack.proofs.FirstSquares.{AreCountsBelow, below_start, below_room, below_man, below_none, below_all}
use Rattle.chess_attack.proofs.Shown.{shown, counts_none}
use Rattle.chess_attack.proofs.Work.{worked_none, worked_more, worked_within}
use Rattle.chess_attack.proofs.counts.Counts.of.Goals as goal
use Rattle.chess_attack.proofs.counts.Counts.of.Goals.{in-Some, in_default}

pub loop-number-init : goal.loop-number-init
loop-number-init c = record {
  below = below_start c.zero-tally.result (man_at c.args.placement.now) c.zero-tally.ensures.counts;
  worked = worked_none c.zero-tally.result 0;
}

pub mark-requires : goal.mark-requires
mark-requires c = record {
  room = rw c.from_index-square.ensures
      (below_room c.loop-number.tally (man_at c.args.placement.now) c.loop-number.number c.in-Some.man (omega arith) c.loop-number.invariant.below);
}

pub loop-number-preserved : goal.loop-number-preserved
loop-number-preserved c =
    let man_on : Men = man_at c.args.placement.now in
    let held : man_on c.loop-number.number ≡ c.get.result = ap man_on (sym c.from_index-square.ensures) ∙ sym c.get.ensures in
    elim c.match-get.branch [
      | in-Some w ↦
          let more : Moves Raise c.loop-number.tally w.mark.new.tally (own w.in-Some.man man_on c.loop-number.number) =
          subst (λ n. Moves Raise c.loop-number.tally w.mark.new.tally (own w.in-Some.man man_on n)) c.from_index-square.ensures w.mark.ensures.counts in
          rw w.tally-is (record {
            below = below_man c.loop-number.tally w.mark.new.tally man_on c.loop-number.number w.in-Some.man c.loop-number.invariant.below
                (held ∙ w.in-Some.is) more;
            worked = worked_within c.zero-tally.result w.mark.new.tally (c.loop-number.number * 27 + 27) ((c.loop-number.number + 1) * 27) (omega arith)
                (worked_more c.zero-tally.result c.loop-number.tally w.mark.new.tally (c.loop-number.number * 27) 27
                c.loop-number.invariant.worked w.mark.ensures.worked);
          })
      | in_default w ↦ rw w.tally-is (record {
        below = below_none c.loop-number.tally man_on c.loop-number.number c.loop-number.invariant.below (held ∙ w.in_default.is);
        worked = worked_within c.zero-tally.result c.loop-number.tally (c.loop-number.number * 27) ((c.loop-number.number + 1) * 27) (omega arith)
            c.loop-number.invariant.worked;
      })
    ]

pub returns-clause-agrees : goal.returns-clause-agrees
returns-clause-agrees c =
    let e : c.loop-number.number ≡ 64 = omega arith in
    below_all c.loop-number.tally c.args.placement.now
    (subst (λ n. AreCountsBelow c.loop-number.tally (man_at c.args.placement.now) n) e c.loop-number.invariant.below)

pub returns-clause-at_most : goal.returns-clause-at_most
returns-clause-at_most c = omega (arith, c.loop-number.invariant.worked.at_most, c.zero-tally.ensures.ticks)

pub returns-clause-at_least : goal.returns-clause-at_least
returns-clause-at_least c =
    let none : AreCounts c.zero-tally.result empty = counts_none c.zero-tally.result empty c.zero-tally.ensures.counts (λ t. get-empty nat_cmp t) in
    omega (
      arith,
      c.zero-tally.ensures.ticks,
      c.loop-number.invariant.worked.at_most,
      shown c.zero-tally.result c.loop-number.tally empty c.args.placement.now (c.loop-number.number * 27) none (returns-clause-agrees c)
          c.loop-number.invariant.worked,
    )

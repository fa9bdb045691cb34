use Rattle.std.proofs.Common.{sym, ◌∙◌, arith}
use Rattle.std.specs.FinMap.{insert}
use Rattle.chess_types.specs.board.Board.{Board}
use Rattle.chess_attack.specs.KeptCounts.{AreCounts, Worked}
use Rattle.chess_attack.proofs.Replaces.{replace_less, replace_more, replace_counts}
use Rattle.chess_attack.proofs.Shown.{shown}
use Rattle.chess_attack.proofs.Work.{worked_more}
use Rattle.chess_attack.proofs.follow.replace_in.Goals as goal

pub mark-requires : goal.mark-requires
mark-requires c = record {
  room = replace_less c.args.before.now c.args.at c.in-Some.other c.args.man (omega arith) (sym c.get.ensures ∙ c.in-Some.is) c.args.tally.now
      c.requires.agrees;
}

pub mark-requires-in-Some : goal.mark-requires-in-Some
mark-requires-in-Some c = record {
  room = replace_more c.args.before.now c.args.at c.in-Some.other c.args.man (omega arith) (sym c.get.ensures ∙ c.in-Some.is) c.args.tally.now
      c.mark.new.tally c.requires.agrees c.mark.ensures.counts;
}

pub returns-in-Some-clause-agrees : goal.returns-in-Some-clause-agrees
returns-in-Some-clause-agrees c =
    replace_counts c.args.before.now c.args.at c.in-Some.other c.args.man (omega arith) (sym c.get.ensures ∙ c.in-Some.is)
    c.args.tally.now c.mark.new.tally c.mark-in-Some.new.tally c.requires.agrees c.mark.ensures.counts c.mark-in-Some.ensures.counts

pub returns-in-Some-clause-at_most : goal.returns-in-Some-clause-at_most
returns-in-Some-clause-at_most c = omega (arith, c.mark.ensures.worked.at_most, c.mark-in-Some.ensures.worked.at_most)

pub returns-in-Some-clause-at_least : goal.returns-in-Some-clause-at_least
returns-in-Some-clause-at_least c =
    let after : Board = insert c.args.before.now c.args.at c.args.man in
    let agrees : AreCounts c.mark-in-Some.new.tally after = returns-in-Some-clause-agrees c in
    let work : Worked c.args.tally.now c.mark-in-Some.new.tally 54 = worked_more _ _ _ 27 27 c.mark.ensures.worked c.mark-in-Some.ensures.worked in
    shown c.args.tally.now c.mark-in-Some.new.tally c.args.before.now after 54 c.requires.agrees agrees work

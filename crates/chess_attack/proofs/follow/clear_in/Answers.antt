use Rattle.std.proofs.Common.{sym, ◌∙◌, arith}
use Rattle.std.specs.FinMap.{remove}
use Rattle.chess_types.specs.board.Board.{Board, man_at}
use Rattle.chess_attack.specs.declared.change.Change.TheVariants.{Lower}
use Rattle.chess_attack.specs.KeptCounts.{AreCounts, Worked}
use Rattle.chess_attack.proofs.Added.{Adds, adds_clear}
use Rattle.chess_attack.proofs.Puts.{clear_own, clear_cut, counts_after}
use Rattle.chess_attack.proofs.Shown.{shown}
use Rattle.chess_attack.proofs.Work.{worked_more}
use Rattle.chess_attack.proofs.follow.clear_in.Goals as goal
use Rattle.chess_attack.proofs.follow.clear_in.Goals.{In-Some}

-- the board before is the one afterwards with the man added
adds : (c : In-Some) → Adds (man_at (remove c.args.before.now c.args.at)) (man_at c.args.before.now) c.args.at c.in-Some.man
adds c = adds_clear c.args.before.now c.args.at c.in-Some.man (omega arith) (sym c.get.ensures ∙ c.in-Some.is)

pub mark-requires : goal.mark-requires
mark-requires c =
    let board : Board = c.args.before.now in
    let after : Board = remove board c.args.at in
    record { room = clear_own after board c.args.at c.in-Some.man (adds (goal.at.mark-requires c).In-Some) c.args.tally.now c.requires.agrees }

pub update_x_rays-requires : goal.update_x_rays-requires
update_x_rays-requires c =
    let board : Board = c.args.before.now in
    let after : Board = remove board c.args.at in
    record { room = clear_cut after board c.args.at c.in-Some.man (adds (goal.at.update_x_rays-requires c).In-Some) c.args.tally.now c.mark.new.tally c.requires.agrees c.mark.ensures.counts }

pub returns-in-Some-clause-agrees : goal.returns-in-Some-clause-agrees
returns-in-Some-clause-agrees c =
    let board : Board = c.args.before.now in
    let after : Board = remove board c.args.at in
    counts_after after board c.args.at c.in-Some.man (adds (goal.at.returns-in-Some-clause-agrees c).In-Some) Lower c.args.tally.now c.mark.new.tally c.update_x_rays.new.tally
    c.requires.agrees c.mark.ensures.counts c.update_x_rays.ensures.counts

pub returns-in-Some-clause-at_most : goal.returns-in-Some-clause-at_most
returns-in-Some-clause-at_most c = omega (arith, c.mark.ensures.worked.at_most, c.update_x_rays.ensures.worked.at_most)

pub returns-in-Some-clause-at_least : goal.returns-in-Some-clause-at_least
returns-in-Some-clause-at_least c =
    let after : Board = remove c.args.before.now c.args.at in
    let agrees : AreCounts c.update_x_rays.new.tally after = returns-in-Some-clause-agrees c in
    let work : Worked c.args.tally.now c.update_x_rays.new.tally 54 = worked_more _ _ _ 27 27 c.mark.ensures.worked c.update_x_rays.ensures.worked in
    shown c.args.tally.now c.update_x_rays.new.tally c.args.before.now after 54 c.requires.agrees agrees work

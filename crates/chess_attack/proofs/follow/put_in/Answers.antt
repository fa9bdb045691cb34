use Rattle.std.proofs.Common.{arith}
use Rattle.std.specs.FinMap.{insert}
use Rattle.chess_types.specs.board.Board.{Board, man_at}
use Rattle.chess_attack.specs.declared.change.Change.TheVariants.{Raise}
use Rattle.chess_attack.specs.KeptCounts.{AreCounts, Worked}
use Rattle.chess_attack.proofs.Added.{Adds, adds_put}
use Rattle.chess_attack.proofs.Puts.{put_own, put_cut, counts_after}
use Rattle.chess_attack.proofs.Shown.{shown}
use Rattle.chess_attack.proofs.Work.{worked_more}
use Rattle.chess_attack.proofs.follow.put_in.Goals as goal
use Rattle.chess_attack.proofs.follow.put_in.Goals.{Start}

-- the board afterwards is the one before with the man added
adds : (c : Start) → Adds (man_at c.args.before.now) (man_at (insert c.args.before.now c.args.at c.args.man)) c.args.at c.args.man
adds c = adds_put c.args.before.now c.args.at c.args.man (omega arith) c.requires.empty

pub mark-requires : goal.mark-requires
mark-requires c =
    let board : Board = c.args.before.now in
    let after : Board = insert board c.args.at c.args.man in
    record { room = put_own board after c.args.at c.args.man (adds (goal.at.mark-requires c).Start) c.args.tally.now c.requires.agrees }

pub update_x_rays-requires : goal.update_x_rays-requires
update_x_rays-requires c =
    let board : Board = c.args.before.now in
    let after : Board = insert board c.args.at c.args.man in
    record {
      room = put_cut board after c.args.at c.args.man (adds (goal.at.update_x_rays-requires c).Start) c.args.tally.now c.mark.new.tally c.requires.agrees c.mark.ensures.counts;
    }

pub returns-clause-agrees : goal.returns-clause-agrees
returns-clause-agrees c =
    let board : Board = c.args.before.now in
    let after : Board = insert board c.args.at c.args.man in
    counts_after board after c.args.at c.args.man (adds (goal.at.returns-clause-agrees c).Start) Raise c.args.tally.now c.mark.new.tally c.update_x_rays.new.tally
    c.requires.agrees c.mark.ensures.counts c.update_x_rays.ensures.counts

pub returns-clause-at_most : goal.returns-clause-at_most
returns-clause-at_most c = omega (arith, c.mark.ensures.worked.at_most, c.update_x_rays.ensures.worked.at_most)

pub returns-clause-at_least : goal.returns-clause-at_least
returns-clause-at_least c =
    let after : Board = insert c.args.before.now c.args.at c.args.man in
    let agrees : AreCounts c.update_x_rays.new.tally after = returns-clause-agrees c in
    let work : Worked c.args.tally.now c.update_x_rays.new.tally 54 = worked_more _ _ _ 27 27 c.mark.ensures.worked c.update_x_rays.ensures.worked in
    shown c.args.tally.now c.update_x_rays.new.tally c.args.before.now after 54 c.requires.agrees agrees work

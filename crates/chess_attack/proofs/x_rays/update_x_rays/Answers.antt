use Rattle.std.proofs.Common.{ℕ, ◌+◌, arith}
use Rattle.chess_types.specs.declared.board.axis.Axis.{Axis}
use Rattle.chess_types.specs.declared.board.axis.Axis.TheVariants.{Rank, File, Rising, Falling}
use Rattle.chess_types.specs.declared.board.man.Colour.{Colour}
use Rattle.chess_types.specs.board.Board.{man_at}
use Rattle.chess_attack.specs.steps.Marks.{Moves}
use Rattle.chess_attack.specs.steps.Through.{cut_along, cut}
use Rattle.chess_attack.proofs.Amounts.{moves_both, room_rest}
use Rattle.chess_attack.proofs.Eights.{halves_short}
use Rattle.chess_attack.proofs.Work.{worked_more, worked_within}
use Rattle.chess_attack.proofs.x_rays.update_x_rays.Goals as goal
use Rattle.chess_attack.proofs.x_rays.update_x_rays.Goals.{After-update_x_rays_axis-2}

-- the first two axes
two : (c : After-update_x_rays_axis-2) →
    Moves c.args.change c.args.tally.now c.update_x_rays_axis-2.new.tally
    (λ k s. cut_along (man_at c.args.placement.now) Rank c.args.at k s + cut_along (man_at c.args.placement.now) File c.args.at k s)
two c =
    moves_both c.args.change c.args.tally.now c.update_x_rays_axis.new.tally c.update_x_rays_axis-2.new.tally (cut_along (man_at c.args.placement.now) Rank c.args.at)
    (cut_along (man_at c.args.placement.now) File c.args.at) c.update_x_rays_axis.ensures.counts c.update_x_rays_axis-2.ensures.counts

pub update_x_rays_axis-requires-2 : goal.update_x_rays_axis-requires-2
update_x_rays_axis-requires-2 c =
    let along : Axis → Colour → ℕ → ℕ = λ axis. cut_along (man_at c.args.placement.now) axis c.args.at in
    record {
      room = room_rest c.args.change c.args.tally.now c.update_x_rays_axis.new.tally (along Rank) (along File) (cut (man_at c.args.placement.now) c.args.at)
          c.requires.room c.update_x_rays_axis.ensures.counts (λ k s. omega arith);
    }

pub update_x_rays_axis-requires-3 : goal.update_x_rays_axis-requires-3
update_x_rays_axis-requires-3 c =
    let along : Axis → Colour → ℕ → ℕ = λ axis. cut_along (man_at c.args.placement.now) axis c.args.at in
    record {
      room = room_rest c.args.change c.args.tally.now c.update_x_rays_axis-2.new.tally (λ k s. along Rank k s + along File k s) (along Rising)
          (cut (man_at c.args.placement.now) c.args.at) c.requires.room (two (goal.at.update_x_rays_axis-requires-3 c).After-update_x_rays_axis-2) (λ k s. omega arith);
    }

pub update_x_rays_axis-requires-4 : goal.update_x_rays_axis-requires-4
update_x_rays_axis-requires-4 c =
    let along : Axis → Colour → ℕ → ℕ = λ axis. cut_along (man_at c.args.placement.now) axis c.args.at in
    let three : Moves c.args.change c.args.tally.now c.update_x_rays_axis-3.new.tally (λ k s. along Rank k s + along File k s + along Rising k s) =
    moves_both c.args.change c.args.tally.now c.update_x_rays_axis-2.new.tally c.update_x_rays_axis-3.new.tally (λ k s. along Rank k s + along File k s)
    (along Rising) (two (goal.at.update_x_rays_axis-requires-4 c).After-update_x_rays_axis-2) c.update_x_rays_axis-3.ensures.counts in
    record {
      room = room_rest c.args.change c.args.tally.now c.update_x_rays_axis-3.new.tally (λ k s. along Rank k s + along File k s + along Rising k s)
          (along Falling) (cut (man_at c.args.placement.now) c.args.at) c.requires.room three (λ k s. omega arith);
    }

pub returns-clause-worked : goal.returns-clause-worked
returns-clause-worked c =
    worked_within _ _ _ 27 (halves_short c.args.at (omega arith))
    (worked_more _ _ _ _ _
    (worked_more _ _ _ _ _ (worked_more _ _ _ _ _ c.update_x_rays_axis.ensures.worked c.update_x_rays_axis-2.ensures.worked) c.update_x_rays_axis-3.ensures.worked)
    c.update_x_rays_axis-4.ensures.worked)

-- The three sums of the placement in which a game begins, which the checker computes.
use Rattle.std.proofs.Common.{◌≡◌, pos, refl, ap, ◌∙◌}
use Rattle.chess_types.specs.board.Board.{man_at}
use Rattle.chess_types.specs.board.Squares.{squares}
use Rattle.chess_types.specs.board.Position.{start, start_cells}
use Rattle.chess_types.proofs.StartLemmas.{start_look, start_placed}
use Rattle.chess_eval.specs.Worth.{middle_of, end_of}
use Rattle.chess_eval.specs.Evaluation.{Sums, sums_of, over_board}

sums_of_look : sums_of start_look ≡ record { middle = pos 0; end = pos 0; weights = pos 24 }
unfolding over_board middle_of end_of start_look start_cells squares
sums_of_look = refl

pub sums_start : sums_of (man_at start.placement) ≡ record { middle = pos 0; end = pos 0; weights = pos 24 }
sums_start = ap sums_of start_placed ∙ sums_of_look

-- A test of all squares, computed once, holds of each.
use Rattle.std.proofs.Common.{◌≡◌, ℕ, ◌<◌, Bool, true, arith}
use Rattle.std.specs.List.{list_all}
use Rattle.chess_types.specs.board.Squares.{squares}
use Rattle.chess_types.proofs.Runs.{list_all_at}

pub every_square : (test : ℕ → Bool) → list_all test squares ≡ true → (s : ℕ) → s < 64 → test s ≡ true
unfolding squares
every_square test all s low = list_all_at test 0 64 s all (omega arith) (omega arith)

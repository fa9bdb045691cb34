-- A sweep: a walk that changes, by one, the count of one colour on each square that it passes.
use Rattle.std.proofs.Common.{◌≡◌, ℕ, Bool, true, false, not, ◌&&◌, refl}
use Rattle.chess_types.specs.declared.board.axis.Axis.{Axis}
use Rattle.chess_attack.specs.declared.way.Way.{Way}
use Rattle.chess_attack.specs.steps.Halves.{on_half}

-- the walk has passed s
abbrev pub passed : Axis → Way → ℕ → ℕ → ℕ → Bool
passed axis way at here s = on_half axis way at s && not (on_half axis way here s)

pub and_not : (b : Bool) → (b && not b) ≡ false
and_not true = refl
and_not false = refl

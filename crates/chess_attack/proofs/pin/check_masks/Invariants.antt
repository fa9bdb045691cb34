use Rattle.std.proofs.Common.{◌≡◌, ℕ, ◌<◌, ◌&&◌, filter}
use Rattle.std.specs.List.{list_all}
use Rattle.std.specs.FinSet.{contains}
use Rattle.chess_types.specs.board.Squares.{squares}
use Rattle.chess_attack.specs.Pins.{stops}
use Rattle.chess_attack.proofs.pin.check_masks.Given as goal

-- those gone over, and those still to come, decide
abbrev pub invariant-loop-from : goal.invariant-loop-from
invariant-loop-from l = record {
  can : (goal.iterator-loop-from).can_next l.from-iterator;
  finite : (goal.iterator-loop-from).is_finite l.from-iterator;
  rest : (to : ℕ) → to < 64 → (contains l.stopped to && list_all (λ a. stops l.king a to) l.from-iterator)
      ≡ list_all (λ a. stops l.king a to) (filter (contains l.fn.checking) squares);
}

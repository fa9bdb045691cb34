use Rattle.std.proofs.Common.{◌≡◌, List, ℕ, ◌+◌, ◌++◌, length}
use Rattle.std.specs.Prelude.{Vec}
use Rattle.std.specs.Borrow.{Bor}
use Rattle.chess_pgn.specs.steps.OtherCode.{shown}
use Rattle.chess_bindings.proofs.heading.name_in.Given as goal

abbrev pub invariant-loop-name : goal.invariant-loop-name
invariant-loop-name g l =
    (done : List (Vec ℕ (Bor g.row.A.Denot) × Vec ℕ (Bor g.row.A.Denot)))
    × (l.tags.others ≡ shown (done ++ l.name-iterator))
    × (l.place ≡ length done + l.left)

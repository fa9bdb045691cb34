use Rattle.std.proofs.Common.{◌≡◌, List, ℕ, ◌++◌}
use Rattle.std.specs.Prelude.{Vec, option_map}
use Rattle.std.specs.Borrow.{Bor}
use Rattle.chess_pgn.specs.Written.{others_text}
use Rattle.chess_pgn.specs.steps.OtherCode.{shown}
use Rattle.chess_pgn.proofs.writer.push_others.Given as goal

abbrev pub invariant-loop-name : goal.invariant-loop-name
invariant-loop-name g l =
    (done : List (Vec ℕ (Bor g.row.A.Denot) × Vec ℕ (Bor g.row.A.Denot)))
    × (l.others ≡ shown (done ++ l.name-iterator))
    × (l.text.items ≡ l.fn.text.items ++ others_text l.from (option_map (λ next. next.now) l.to) (shown done))

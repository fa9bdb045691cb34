use Rattle.std.proofs.Common.{ℕ, List, ◌++◌, take}
use Rattle.chess_pgn.specs.steps.Laying.{Lays}
use Rattle.chess_pgn.proofs.lines.Lines.push.Given as goal

abbrev pub invariant-loop-b : goal.invariant-loop-b
invariant-loop-b g l =
    (before text : List ℕ) → Lays before l.fn.self.text.items l.fn.self.space l.fn.self.column text
    → Lays before l.self.text.items l.self.space l.self.column (text ++ take l.b-index l.part)

use Rattle.std.proofs.Common.{ℕ, List, ◌++◌, take}
use Rattle.chess_pgn.specs.Written.{nags_text}
use Rattle.chess_pgn.specs.steps.Laying.{Lays}
use Rattle.chess_pgn.proofs.movetext.push_nags.Given as goal

abbrev pub invariant-loop-nag : goal.invariant-loop-nag
invariant-loop-nag g l =
    (before text : List ℕ) → Lays before l.fn.lines.text.items l.fn.lines.space l.fn.lines.column text
    → Lays before l.lines.text.items l.lines.space l.lines.column (text ++ nags_text (take l.nag-index l.nags))

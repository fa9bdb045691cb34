-- The line that a speller follows, and what it writes.
--   line_of   the one on which it makes moves, or the one to a known move
--   IsStill   no move of the first is only looked at
--   spoken_text   a move as it is written in a position, with its number where it is due
use Rattle.std.specs.Prelude.{◌≡◌, ℕ, Bool, List, ◌++◌, ⊤}
use Rattle.chess_types.specs.board.MoveParts.{MoveParts}
use Rattle.chess_types.specs.board.Position.{PositionParts}
use Rattle.chess_types.specs.board.Lines.{Line}
use Rattle.chess_san.specs.Writing.{san}
use Rattle.chess_pgn.specs.Written.{number_text}
use Rattle.chess_pgn.specs.steps.KnownTexts.{line_at}
use Rattle.chess_pgn.specs.declared.speller.Way.{Way}
use Rattle.chess_pgn.specs.declared.speller.Way.TheVariants.{Made, Known}

abbrev pub line_of : {A : Type 0} → Way A → Line
line_of (Made line) = line.line
line_of (Known texts place) = line_at texts.now place

abbrev pub IsStill : {A : Type 0} → Way A → Type 0
IsStill (Made line) = line.looked ≡ 0
IsStill (Known texts place) = ⊤

abbrev pub spoken_text : List ℕ → Bool → PositionParts → MoveParts → List ℕ
spoken_text opening due p m = opening ++ (number_text due p.side p.number ++ san p m)

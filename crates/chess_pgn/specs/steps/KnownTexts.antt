-- The moves of a game of which the texts are known, the last one first. They are counted from 1 in the order in which they were read.
--   way        the moves on the way to one of them; to 0, none
--   known_at   the one with that number
--   line_at    the line to it, from the position in which a game begins unless its tags say otherwise
--   IsKnown    that is a move's text, and the side and the number are those of the last position of a line
--   AreKnown   each of them is known of the line to the one before it
use Rattle.std.specs.Prelude.{◌≡◌, ℕ, suc, ◌≤◌, ◌==◌, if◌then◌else◌, List, [], ◌∷◌, ◌++◌, length, Option, None, Some, ⊤}
use Rattle.chess_types.specs.board.MoveParts.{MoveParts}
use Rattle.chess_types.specs.board.Position.{start}
use Rattle.chess_types.specs.board.Lines.{Line, last}
use Rattle.chess_san.specs.Writing.{san}
use Rattle.chess_pgn.specs.declared.texts.Known.{Known}

abbrev pub way : List Known → ℕ → List MoveParts
way [] place = []
way (k ∷ earlier) place = if place == suc (length earlier) then way earlier k.before ++ k.played ∷ [] else way earlier place

abbrev pub known_at : List Known → ℕ → Option Known
known_at [] place = None
known_at (k ∷ earlier) place = if place == suc (length earlier) then Some k else known_at earlier place

abbrev pub line_at : List Known → ℕ → Line
line_at ks place = record { start = start; moves = way ks place }

pub record IsKnown (line : Line) (k : Known) : Type 0 where
  pub text : k.text.bytes ≡ san (last line) k.played
  pub side : k.side ≡ (last line).side
  pub number : k.number ≡ (last line).number

abbrev pub AreKnown : List Known → Type 0
AreKnown [] = ⊤
AreKnown (k ∷ earlier) = (k.before ≤ length earlier) × IsKnown (line_at earlier k.before) k × AreKnown earlier

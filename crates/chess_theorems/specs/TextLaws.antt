-- What the texts of moves say (PGN 8.2.3).
--   OneTextOneMove   two legal moves of a position with the same text are one move
--   TextsAreShort    no text has more than seven letters, the mark of check or mate among them
use Rattle.std.specs.Prelude.{◌≡◌, ◌≤◌, length}
use Rattle.std.specs.List.{Contains}
use Rattle.chess_types.specs.board.MoveParts.{MoveParts}
use Rattle.chess_types.specs.board.Position.{PositionParts}
use Rattle.chess_types.specs.board.Legal.{legal_moves}
use Rattle.chess_san.specs.Writing.{san}

-- no other legal move has the text of a move
abbrev pub OneTextOneMove : Type 0
OneTextOneMove = (p : PositionParts) (m n : MoveParts) → Contains (legal_moves p) m → Contains (legal_moves p) n → san p m ≡ san p n → m ≡ n

-- as `Qh4xe1#`
abbrev pub TextsAreShort : Type 0
TextsAreShort = (p : PositionParts) (m : MoveParts) → length (san p m) ≤ 7

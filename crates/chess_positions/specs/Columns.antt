-- What the row of a ply has in each column, from the line as far as that ply: its starting position and its moves.
--   before       the line without its last move; last_move, that move
--   san_of       the text of the last move in standard algebraic notation (PGN 8.2.3)
--   key_text     a key's 16 digits of base 16
--   Datum        what a row has in a column: a number, a text, or nothing
--   datum        what the row of a game's ply has there
--   column_name      a column's name
--   column_of    the column of a name
use Rattle.std.specs.Prelude.{ℕ, ◌-◌, List, [], ◌∷◌, length, bytes_eq, codes, Option, Some, None, option_map}
use Rattle.std.specs.List.{find, slice_get}
use Rattle.std.specs.Int.{to_be_bytes, w64}
use Rattle.hex.specs.Hex.{encode_lower}
use Rattle.chess_types.specs.board.MoveParts.{MoveParts}
use Rattle.chess_types.specs.board.Lines.{Line, last}
use Rattle.chess_types.specs.board.Outcome.{status, status_text}
use Rattle.chess_types.specs.board.Repetition.{repetitions}
use Rattle.chess_types.specs.board.Texts.{move_text}
use Rattle.chess_items.specs.declared.outcome.Outcome.{Outcome}
use Rattle.chess_items.specs.Markers.{outcome_text}
use Rattle.chess_polyglot.specs.Keys.{polyglot_key}
use Rattle.chess_fen.specs.Writing.{identity, written}
use Rattle.chess_san.specs.Writing.{san}
use Rattle.chess_report.specs.MainLine.{as_far}
use Rattle.chess_positions.specs.declared.column.Column.{Column}
use Rattle.chess_positions.specs.declared.column.Column.TheVariants as by

-- the moves before the last
abbrev pub before : Line → Line
before line = as_far (length line.moves - 1) line

-- none at the start
abbrev pub last_move : Line → Option MoveParts
last_move line = slice_get line.moves (length line.moves - 1)

-- as it is written where it is made
abbrev pub san_of : Line → Option (List ℕ)
san_of line = option_map (san (last (before line))) (last_move line)

-- the highest four bits first, in lower case
abbrev pub key_text : ℕ → List ℕ
key_text key = encode_lower (to_be_bytes w64 key)

pub data Datum : Type 0 where
  Number : ℕ → Datum
  Text : List ℕ → Datum
  Nothing : Datum

-- a text, if it is there
abbrev pub text_if : Option (List ℕ) → Datum
text_if (Some text) = Text text
text_if None = Nothing

-- of the game with that number and marker, after the moves of the line
abbrev pub datum : Column → ℕ → Outcome → Line → Datum
datum by.Game number outcome line = Number number
datum by.Ply number outcome line = Number (length line.moves)
datum by.Uci number outcome line = text_if (option_map move_text (last_move line))
datum by.San number outcome line = text_if (san_of line)
datum by.Fen number outcome line = Text (written (last line))
datum by.Epd number outcome line = Text (identity (last line))
datum by.Key number outcome line = Text (key_text (polyglot_key (last line)))
datum by.Repetitions number outcome line = Number (repetitions line)
datum by.Status number outcome line = Text (status_text (status line))
datum by.Result number outcome line = Text (outcome_text outcome)

abbrev pub column_name : Column → List ℕ
column_name by.Game = codes "game"
column_name by.Ply = codes "ply"
column_name by.Uci = codes "uci"
column_name by.San = codes "san"
column_name by.Fen = codes "fen"
column_name by.Epd = codes "epd"
column_name by.Key = codes "key"
column_name by.Repetitions = codes "repetitions"
column_name by.Status = codes "status"
column_name by.Result = codes "result"

-- all of them, each once
abbrev pub all_columns : List Column
all_columns = by.Game ∷ by.Ply ∷ by.Uci ∷ by.San ∷ by.Fen ∷ by.Epd ∷ by.Key ∷ by.Repetitions ∷ by.Status ∷ by.Result ∷ []

abbrev pub column_of : List ℕ → Option Column
column_of name = find (λ column. bytes_eq name (column_name column)) all_columns

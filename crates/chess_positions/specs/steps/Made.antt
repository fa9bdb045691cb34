-- What is kept of the last move while its row is made.
--   is_san      the column has moves in standard algebraic notation
--   IsReached   the move is the last of the line, and where it is asked for, its text is the one kept and the mark; or there is no move
use Rattle.std.specs.Prelude.{◌≡◌, Bool, true, false, [], ◌++◌, Option, Some, None}
use Rattle.chess_types.specs.board.Lines.{Line, last}
use Rattle.chess_san.specs.Writing.{mark_text}
use Rattle.chess_positions.specs.declared.column.Column.{Column}
use Rattle.chess_positions.specs.declared.column.Column.TheVariants.{San}
use Rattle.chess_positions.specs.declared.made.Made.{Made}
use Rattle.chess_positions.specs.Columns.{last_move, san_of}

abbrev pub is_san : Column → Bool
is_san San = true
is_san _ = false

abbrev pub IsReached : Bool → Line → Option Made → Type 0
IsReached with_san line None = line.moves ≡ []
IsReached with_san line (Some made) = (last_move line ≡ Some made.played) × (with_san ≡ true → san_of line ≡ Some (made.unmarked.bytes ++ mark_text (last line)))

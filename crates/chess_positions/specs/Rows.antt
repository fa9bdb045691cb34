-- How rows are written: as comma-separated values (RFC 4180), or as a JSON object a line (RFC 8259). No value has a byte that either has to escape: a comma,
-- a quotation mark, a backslash or a control character.
--   datum_text   a value
--   cell_text    a value, in JSON after its column's name
--   with_commas  texts of columns with commas between them
--   ply_text     the row of a ply: its cells with commas between them
--   names_text   what comes before the rows: in comma-separated values a row of the columns' names
--   plies_text   the rows of a line's plies, from its start to its last position
use Rattle.std.specs.Prelude.{ℕ, zero, suc, List, [], ◌∷◌, ◌++◌, length, codes, decimal, flat_map}
use Rattle.std.specs.Str.{byte}
use Rattle.chess_types.specs.board.Lines.{Line}
use Rattle.chess_items.specs.declared.outcome.Outcome.{Outcome}
use Rattle.chess_report.specs.MainLine.{as_far}
use Rattle.chess_positions.specs.Columns.{Datum, Number, Text, Nothing, column_name, datum}
use Rattle.chess_positions.specs.declared.column.Column.{Column}
use Rattle.chess_positions.specs.declared.layout.Format.{Format}
use Rattle.chess_positions.specs.declared.layout.Format.TheVariants.{Csv, Jsonl}

-- before and after a text
abbrev pub quote : Format → List ℕ
quote Csv = []
quote Jsonl = codes "\""

-- a value that isn't there is empty, or null
abbrev pub datum_text : Format → Datum → List ℕ
datum_text format (Number n) = decimal n
datum_text format (Text text) = quote format ++ (text ++ quote format)
datum_text Csv Nothing = []
datum_text Jsonl Nothing = codes "null"

-- before a value
abbrev pub label : Format → Column → List ℕ
label Csv column = []
label Jsonl column = byte "\"" ∷ (column_name column ++ codes "\":")

-- what a game's ply has in a column
abbrev pub cell_text : Format → ℕ → Outcome → Line → Column → List ℕ
cell_text format number outcome line column = label format column ++ datum_text format (datum column number outcome line)

-- each cell after a comma
abbrev pub after_commas : (Column → List ℕ) → List Column → List ℕ
after_commas text columns = flat_map (λ column. byte "," ∷ text column) columns

-- the first cell, and each other after a comma
abbrev pub with_commas : (Column → List ℕ) → List Column → List ℕ
with_commas text [] = []
with_commas text (column ∷ columns) = text column ++ after_commas text columns

-- before the cells of a row
abbrev pub opening : Format → List ℕ
opening Csv = []
opening Jsonl = codes "{"

-- after them
abbrev pub closing : Format → List ℕ
closing Csv = codes "\r\n"
closing Jsonl = codes "}\n"

-- after the moves of the line
abbrev pub ply_text : Format → List Column → ℕ → Outcome → Line → List ℕ
ply_text format columns number outcome line = opening format ++ (with_commas (cell_text format number outcome line) columns ++ closing format)

abbrev pub names_text : Format → List Column → List ℕ
names_text Csv columns = with_commas column_name columns ++ codes "\r\n"
names_text Jsonl columns = []

-- the rows of the plies below a number
abbrev pub rows_below : (ℕ → List ℕ) → ℕ → List ℕ
rows_below row zero = []
rows_below row (suc n) = rows_below row n ++ row n

-- ply n has n moves made: ply 0 is the start, and the last ply has them all
abbrev pub plies_text : Format → List Column → ℕ → Outcome → Line → List ℕ
plies_text format columns number outcome line = rows_below (λ n. ply_text format columns number outcome (as_far n line)) (suc (length line.moves))

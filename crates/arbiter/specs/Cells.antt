-- How a row is written: as comma-separated values (RFC 4180), or as a JSON object a line (RFC 8259). What the bytes of both are the crates `csv` and `json` say.
--   Value       what a column has: a number, a text of any bytes, a truth, or nothing
--   maybe       a value that may be missing
--   Cell        a column's name and its value
--   as_utf8     a text as UTF-8; bytes that aren't are read as ISO 8859-1 (PGN 4.1)
--   is_formula  a spreadsheet may take the text for a formula (OWASP, CSV injection)
--   as_text     the text, written so that it takes it for none
--   csv_text    a value among comma-separated values
--   json_value  a value in JSON
--   row_text    a row of these cells
use Rattle.std.specs.Prelude.{ℕ, Bool, true, false, not, ◌&&◌, ◌||◌, ◌==◌, if◌then◌else◌, List, [], ◌∷◌, ◌++◌, codes, decimal, flat_map, map, Option, Some, None}
use Rattle.std.specs.Char.{encode_utf8}
use Rattle.std.specs.Str.{byte, is_utf8}
use Rattle.csv.specs.Writing as csv
use Rattle.csv.specs.declared.parser.Terminator.TheVariants.{CRLF}
use Rattle.csv.specs.declared.writer.WriterBuilder.{WriterBuilder}
use Rattle.json.specs.Print.{print}
use Rattle.json.specs.Token.{Token, begin_object, end_object, key, string, number, boolean, null}
use Rattle.arbiter.specs.declared.cell.Cell as declared
use Rattle.arbiter.specs.declared.cell.Value as values
use Rattle.arbiter.specs.declared.cell.Value.TheVariants as variant
use Rattle.arbiter.specs.declared.row.Format.{Format}
use Rattle.arbiter.specs.declared.row.Format.TheVariants.{Csv, Jsonl}

-- what a column has
pub data Value : Type 0 where
  Number : ℕ → Value
  Text : List ℕ → Value
  Truth : Bool → Value
  Nothing : Value

-- a value, if it is there
abbrev pub maybe : {X : Type 0} → (X → Value) → Option X → Value
maybe value (Some x) = value x
maybe value None = Nothing

-- a column's name, and its value
abbrev pub Cell : Type 0
Cell = List ℕ × Value

-- a text as UTF-8
abbrev pub as_utf8 : List ℕ → List ℕ
as_utf8 text = if is_utf8 text then text else flat_map encode_utf8 text

-- ---- comma-separated values

-- lines end as RFC 4180 has them; a value is between quotation marks only where it has to be
abbrev pub csv_lines : WriterBuilder
csv_lines = csv.with_terminator csv.default_writer CRLF

-- `=`, `+`, `-`, `@`, a tab, a line feed or a carriage return
abbrev pub begins_formula : ℕ → Bool
begins_formula b = (b == byte "=") || (b == byte "+") || (b == byte "-") || (b == byte "@") || (b == 9) || (b == 10) || (b == 13)

-- it begins so, and is no hyphen alone, by which PGN says that there is no such value (PGN 8.1.1.4, 9.1.2)
abbrev pub is_formula : List ℕ → Bool
is_formula [] = false
is_formula (b ∷ []) = begins_formula b && not (b == byte "-")
is_formula (b ∷ next ∷ rest) = begins_formula b

-- an apostrophe before a formula
abbrev pub as_text : List ℕ → List ℕ
as_text text = if is_formula text then byte "'" ∷ text else text

-- a value; one that isn't there is empty
abbrev pub csv_text : Value → List ℕ
csv_text (Number n) = decimal n
csv_text (Text text) = as_text (as_utf8 text)
csv_text (Truth true) = codes "true"
csv_text (Truth false) = codes "false"
csv_text Nothing = []

-- ---- JSON

-- a value
abbrev pub json_value : Value → Token
json_value (Number n) = number (decimal n)
json_value (Text text) = string (as_utf8 text)
json_value (Truth b) = boolean b
json_value Nothing = null

-- a value after its name
abbrev pub member : Cell → List Token
member cell = key cell.0 ∷ json_value cell.1 ∷ []

-- an object
abbrev pub object : List Cell → List Token
object cells = begin_object ∷ (flat_map member cells ++ end_object ∷ [])

-- ---- rows

-- a row
abbrev pub row_text : Format → List Cell → List ℕ
row_text Csv cells = csv.row_text csv_lines (map (λ cell. csv_text cell.1) cells)
row_text Jsonl cells = print (object cells) ++ codes "\n"

-- ---- in the code

-- what a value is
abbrev pub value_of : values.Value → Value
value_of (variant.Number n) = Number n
value_of (variant.Word word) = Text word.now
value_of (variant.Text text) = Text text.now
value_of (variant.Truth b) = Truth b
value_of variant.Nothing = Nothing

-- a field that isn't the first of its row
abbrev pub behind_comma : Cell → List ℕ
behind_comma cell = byte "," ∷ csv.field_text csv_lines (csv_text cell.1)

-- what a cell is
abbrev pub name_and_value : declared.Cell → Cell
name_and_value cell = (cell.name.now, value_of cell.value)

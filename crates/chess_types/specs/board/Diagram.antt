-- A board as a diagram: eight lines of eight letters, as a player of one side sees it.
--   shown       a man's letter (PGN 16.1.3.1), and a dot for an empty square
--   seen_at     the square in a line and a column of a side's diagram: White's begins with the eighth rank and file a, Black's with the
--               first rank and file h
--   line_text   the letters of a line, separated by single spaces
--   diagram     the lines, separated by line feeds
use Rattle.std.specs.Prelude.{ℕ, ◌+◌, ◌-◌, ◌*◌, List, [], ◌∷◌, map, Option, Some, None}
use Rattle.std.specs.List.{join_with_byte}
use Rattle.std.specs.Str.{byte}
use Rattle.chess_types.specs.declared.board.man.Colour.{Colour}
use Rattle.chess_types.specs.declared.board.man.Colour.TheVariants.{White, Black}
use Rattle.chess_types.specs.declared.board.man.Man.{Man}
use Rattle.chess_types.specs.board.Board.{Men}
use Rattle.chess_types.specs.board.Texts.{man_letter}

-- a man's letter, or a period
abbrev pub shown : Option Man → ℕ
shown None = byte "."
shown (Some man) = man_letter man

-- lines and columns are counted from 0
abbrev pub seen_at : Colour → ℕ → ℕ → ℕ
seen_at White line column = 8 * (7 - line) + column
seen_at Black line column = 8 * line + (7 - column)

-- the numbers from 0 to 7
abbrev pub eight : List ℕ
eight = 0 ∷ 1 ∷ 2 ∷ 3 ∷ 4 ∷ 5 ∷ 6 ∷ 7 ∷ []

-- a line of the diagram, its squares separated by spaces
unfoldable pub line_text : Men → Colour → ℕ → List ℕ
line_text man_on side line = join_with_byte (byte " ") (map (λ column. shown (man_on (seen_at side line column)) ∷ []) eight)

-- a line feed is the byte 10
unfoldable pub diagram : Men → Colour → List ℕ
diagram man_on side = join_with_byte 10 (map (line_text man_on side) eight)

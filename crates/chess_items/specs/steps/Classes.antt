-- The bytes that a run is made of.
use Rattle.std.specs.Prelude.{ℕ, Bool}
use Rattle.chess_items.specs.Items.{in_braces, in_line, is_digit, is_glyph, is_name_byte, is_plain, is_word_byte}
use Rattle.chess_items.specs.declared.class.Class.{Class}
use Rattle.chess_items.specs.declared.class.Class.TheVariants.{Braced, Digit, Glyph, Line, Name, Plain, Word}

-- the bytes of a class
abbrev pub has_byte : Class → ℕ → Bool
has_byte Word = is_word_byte
has_byte Digit = is_digit
has_byte Glyph = is_glyph
has_byte Name = is_name_byte
has_byte Plain = is_plain
has_byte Line = in_line
has_byte Braced = in_braces

-- its bit in the table
abbrev pub bit_of : Class → ℕ
bit_of Word = 1
bit_of Digit = 2
bit_of Glyph = 4
bit_of Name = 8
bit_of Plain = 16
bit_of Line = 32
bit_of Braced = 64

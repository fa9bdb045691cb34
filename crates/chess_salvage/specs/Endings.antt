-- The ends of files as people have them: NUL bytes and ^Z after the last game, as DOS and copies of whole disk blocks leave them.
--   is_spent    a byte of such an end: whitespace (9 to 13 and 32, PGN 7), NUL (0), or ^Z (26)
--   is_end      a text has no other bytes, and at most 1,048,576 of them
--   ComesLast   what may come after the last game to the end of the source, and is no game: whitespace, marks and hidden lines alone, or such an end
use Rattle.std.specs.Prelude.{◌≡◌, ◌⊎◌, ℕ, Bool, true, nat_le, ◌==◌, ◌||◌, ◌&&◌, List, length}
use Rattle.std.specs.List.{list_all}
use Rattle.chess_items.specs.Items.{is_blank}
use Rattle.chess_pgn.specs.Reading.{IsWhite}

unfoldable pub is_spent : ℕ → Bool
is_spent b = is_blank b || b == 0 || b == 26

abbrev pub is_end : List ℕ → Bool
is_end text = nat_le (length text) 1048576 && list_all is_spent text

abbrev pub ComesLast : List ℕ → Type 0
ComesLast text = IsWhite text ⊎ (is_end text ≡ true)

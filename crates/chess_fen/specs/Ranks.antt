-- The squares that the first field of a FEN describes (PGN 16.1.3.1).
--   cells_of_byte         the squares that a byte stands for
--   cells_of              the squares that some bytes stand for, one after the other
--   has_adjacent_digits   a digit follows a digit
--   rank_cells            the eight squares that a rank's text stands for, from file a
--   ranks                 the texts of the ranks, the eighth first
--   board_cells           the 64 squares that the field stands for, from a1 to h8
use Rattle.std.specs.Prelude.{ℕ, ◌-◌, ◌==◌, nat_le, Bool, false, ◌&&◌, ◌||◌, if◌then◌else◌, List, [], ◌∷◌, ◌++◌, length, replicate, Option, Some, None, option_map, option_and_then}
use Rattle.std.specs.List.{slice_split}
use Rattle.std.specs.Str.{byte}
use Rattle.chess_types.specs.declared.board.man.Man.{Man}
use Rattle.chess_types.specs.board.Texts.{man_of_letter}

-- the digits 1 to 8
abbrev pub stands_for_empty : ℕ → Bool
stands_for_empty b = nat_le (byte "1") b && nat_le b (byte "8")

-- A digit stands for that many empty squares, a letter for one square and its man.
abbrev pub cells_of_byte : ℕ → Option (List (Option Man))
cells_of_byte b =
    if stands_for_empty b then Some (replicate (b - byte "0") None) else option_map (λ man. Some man ∷ []) (man_of_letter b)

-- one list and then the other, where both are there
abbrev pub both_cells : Option (List (Option Man)) → Option (List (Option Man)) → Option (List (Option Man))
both_cells first second = option_and_then (λ cells. option_map (λ more. cells ++ more) second) first

-- the squares of some bytes, or none where a byte has no meaning
unfoldable pub cells_of : List ℕ → Option (List (Option Man))
cells_of [] = Some []
cells_of (b ∷ bytes) = both_cells (cells_of_byte b) (cells_of bytes)

-- the first byte is a digit from 1 to 8
abbrev pub starts_with_digit : List ℕ → Bool
starts_with_digit [] = false
starts_with_digit (b ∷ bytes) = stands_for_empty b

-- two digits are side by side
abbrev pub has_adjacent_digits : List ℕ → Bool
has_adjacent_digits [] = false
has_adjacent_digits (b ∷ bytes) = (stands_for_empty b && starts_with_digit bytes) || has_adjacent_digits bytes

-- the list, if it is no longer
abbrev pub at_most : ℕ → Option (List (Option Man)) → Option (List (Option Man))
at_most n None = None
at_most n (Some cells) = if nat_le (length cells) n then Some cells else None

-- the list, if it is that long
abbrev pub of_length : ℕ → Option (List (Option Man)) → Option (List (Option Man))
of_length n None = None
of_length n (Some cells) = if length cells == n then Some cells else None

-- the eight squares of a rank's text
unfoldable pub rank_cells : List ℕ → Option (List (Option Man))
rank_cells bytes = if has_adjacent_digits bytes then None else of_length 8 (cells_of bytes)

-- the parts of the field between its slashes
abbrev pub ranks : List ℕ → List (List ℕ)
ranks field = slice_split (λ b. b == byte "/") field

-- the squares of some ranks, of which the first is the highest, from the lowest rank on
unfoldable pub cells_of_ranks : List (List ℕ) → Option (List (Option Man))
cells_of_ranks [] = Some []
cells_of_ranks (highest ∷ others) = both_cells (cells_of_ranks others) (rank_cells highest)

-- the 64 squares of the field of men, from a1 to h8
unfoldable pub board_cells : List ℕ → Option (List (Option Man))
board_cells field = if length (ranks field) == 8 then cells_of_ranks (ranks field) else None

-- Numbers and paths in commands.
--   is_number   the word writes a number
--   number_in   the number that a word writes
--   depth_in    the depth that a word writes
--   path_in     the path that a word writes
--   path_text   the word that writes a path
use Rattle.std.specs.Prelude.{ℕ, Bool, ◌==◌, nat_le, ◌&&◌, if◌then◌else◌, List, [], ◌∷◌, length, map, Option, Some, None, option_map, option_and_then, codes, decimal}
use Rattle.std.specs.Char.{is_ascii_digit}
use Rattle.std.specs.List.{list_all, slice_split}
use Rattle.std.specs.Str.{bytes_eq, byte}
use Rattle.std.specs.Str.Parse.{digits_value}
use Rattle.chess_cli.specs.Gaps.{separated_by}

-- one to six decimal digits; zeros may come first
abbrev pub is_number : List ℕ → Bool
is_number word = list_all is_ascii_digit word && nat_le 1 (length word) && nat_le (length word) 6

-- the number that its digits write
unfoldable pub number_in : List ℕ → Option ℕ
number_in word = if is_number word then Some (digits_value 10 word) else None

-- a depth of a search is one of 1 to 16 plies
abbrev pub depth_in : List ℕ → Option ℕ
depth_in word = option_and_then (λ depth. if nat_le 1 depth && nat_le depth 16 then Some depth else None) (number_in word)

-- the numbers that all the words write
abbrev pub numbers_in : List (List ℕ) → Option (List ℕ)
numbers_in [] = Some []
numbers_in (word ∷ words) = option_and_then (λ n. option_map (λ ns. n ∷ ns) (numbers_in words)) (number_in word)

-- `-` is the root's; else child numbers from 0, separated by periods
unfoldable pub path_in : List ℕ → Option (List ℕ)
path_in word = if bytes_eq word (codes "-") then Some [] else numbers_in (slice_split (λ b. b == byte ".") word)

-- the numbers in decimal, separated by periods, and `-` where there is none
abbrev pub path_text : List ℕ → List ℕ
path_text [] = codes "-"
path_text (place ∷ path) = separated_by (codes ".") (map decimal (place ∷ path))

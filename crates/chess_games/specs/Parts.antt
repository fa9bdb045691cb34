-- A share of the games of a collection, so that many processes write them together.
--   Part      every so manieth game from the first of them; both numbers count from 1
--   IsWhole   all games
--   IsNumber  a text is decimal digits, after which a plus may come first, and they write that number from 1, less than 2^64
--   IsPart    a text is K/N, both numbers, K at most N: every N-th game, from game K
--   is_in     the game after `before` others is in the part: their number and K - 1 leave the same when divided by N
use Rattle.std.specs.Prelude.{◌≡◌, ℕ, ◌-◌, ◌%◌, ◌^◌, ◌<◌, ◌≤◌, Bool, ◌==◌, List, length}
use Rattle.std.specs.List.{position_or_len, before_first, after_first}
use Rattle.std.specs.Str.{byte}
use Rattle.std.specs.Str.Parse.{IsNumeral, digits_value, without_leading_plus}

pub record Part : Type 0 where
  pub first : ℕ
  pub step : ℕ

pub record IsWhole (part : Part) : Type 0 where
  pub first : part.first ≡ 1
  pub step : part.step ≡ 1

-- between the two numbers
abbrev pub is_slash : ℕ → Bool
is_slash b = b == byte "/"

pub record IsNumber (text : List ℕ) (number : ℕ) : Type 0 where
  pub digits : IsNumeral 10 (without_leading_plus text)
  pub value : number ≡ digits_value 10 (without_leading_plus text)
  pub some : 1 ≤ number
  pub small : number < 2 ^ 64

-- the text is cut at its first slash
pub record IsPart (text : List ℕ) (part : Part) : Type 0 where
  pub slash : position_or_len is_slash text < length text
  pub first : IsNumber (before_first is_slash text) part.first
  pub step : IsNumber (after_first is_slash text) part.step
  pub within : part.first ≤ part.step

abbrev pub is_in : Part → ℕ → Bool
is_in part before = before % part.step == part.first - 1

-- What the digits of a word say.
use Rattle.std.proofs.Common.{◌≡◌, ℕ, ◌^◌, ◌<◌, ◌≤◌, true, false, List, length, Some, None, Result, Ok, Err, OkIff, refl, ap, arith, rules}
use Rattle.std.specs.Result.{result_ok}
use Rattle.std.specs.Char.{is_ascii_digit}
use Rattle.std.specs.List.{list_all}
use Rattle.std.specs.Str.{IsUtf8}
use Rattle.std.specs.Str.Parse.{digits_value, ParsesUnsigned}
use Rattle.std.proofs.lemmas.Bool.{and_parts, leb-true}
use Rattle.std.proofs.lemmas.Str.Parse.{IsNumeralModel, numerals_by_value, parse_digits, digits_value_short}
use Rattle.std.proofs.lemmas.Str.{IsUtf8-from_ascii}
use Rattle.std.proofs.lemmas.Fmt.{IsAscii-from_digits}
use Rattle.chess_cli.specs.Numbers.{is_number, number_in}

pub digits_own : IsNumeralModel (λ ds. list_all is_ascii_digit ds ≡ true) (digits_value 10)
digits_own = numerals_by_value _ (search rules)

pub no_number : (word : List ℕ) → is_number word ≡ false → None ≡ number_in word
unfolding number_in
no_number word other = rw other refl

-- digits are text
pub number_is_text : (word : List ℕ) → is_number word ≡ true → IsUtf8 word
number_is_text word is =
    let outer = and_parts _ _ is in
    let inner = and_parts _ _ outer.0 in
    IsUtf8-from_ascii word (IsAscii-from_digits word (digits_own.to word inner.0))

-- six of them always fit
pub number_read : {E : Type 0} (word : List ℕ) (r : Result ℕ E) → is_number word ≡ true → ParsesUnsigned 32 10 word r → result_ok r ≡ number_in word
unfolding number_in
number_read word r is parsed =
    let outer = and_parts _ _ is in
    let inner = and_parts _ _ outer.0 in
    let some : 1 ≤ length word = leb-true 1 _ inner.1 in
    let few : length word ≤ 6 = leb-true _ 6 outer.1 in
    let short = digits_value_short digits_own word 6 inner.0 few in
    let means = parse_digits digits_own 32 word r parsed inner.0 in
    rw is (by r means some short)
  where
    by : {E : Type 0} (r : Result ℕ E) → OkIff r ((0 < length word) × (digits_value 10 word < 2 ^ 32)) (digits_value 10 word) → 1 ≤ length word → digits_value 10 word < 10 ^ 6 → result_ok r ≡ Some (digits_value 10 word)
    by (Ok x) means some short = ap (λ (y : ℕ). Some y) means.1
    by (Err e) means some short = absurd (means (some, omega (arith, short)))

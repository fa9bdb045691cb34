-- The digits of a number as a text has them.
use Rattle.std.proofs.Common.{◌≡◌, ◌≢◌, ◌<◌, ◌≤◌, ℕ, ◌+◌, ◌-◌, ◌*◌, ◌^◌, true, List, [], ◌∷◌, length, decimal, refl, sym, ◌∙◌, arith}
use Rattle.std.specs.List.{list_all}
use Rattle.std.specs.Str.Parse.{AllDigits, digits_value_after}
use Rattle.std.specs.Char.{digit_value}
use Rattle.std.proofs.lemmas.Bool.Decides.{nat_tests}
use Rattle.std.proofs.lemmas.Fmt.{decimal_is_IsNumeral}
use Rattle.std.proofs.lemmas.Str.{digit_value_digit}
use Rattle.std.proofs.lemmas.Str.Parse.{digit_from_value}
use Rattle.chess_items.specs.Items.{Each, Skipped, digits_value, is_digit, is_name_byte, is_word_byte, word_item}

digit_low : (b : ℕ) → 48 ≤ b → b ≤ 57 → is_digit b ≡ true
unfolding is_digit
digit_low b l h = grind (arith, nat_tests, l, h)

pub digit_in_word : (b : ℕ) → is_digit b ≡ true → is_word_byte b ≡ true
unfolding is_word_byte is_name_byte
digit_in_word b e = rw e refl

pub digits_in_word : (ds : List ℕ) → Each is_digit ds → Each is_word_byte ds
digits_in_word [] e = tt
digits_in_word (d ∷ ds) e = (digit_in_word d e.0, digits_in_word ds e.1)

each_digit : (ds : List ℕ) → AllDigits 10 ds → Each is_digit ds
each_digit [] d = tt
each_digit (c ∷ cs) d = let range = digit_from_value c d.0 in (digit_low c (omega arith) (omega arith), each_digit cs d.1)

same_value : (n : ℕ) (ds : List ℕ) → AllDigits 10 ds → digits_value n ds ≡ digits_value_after 10 n ds
same_value n [] d = refl
same_value n (c ∷ cs) d =
    let range = digit_from_value c d.0 in
    let k = digit_value_digit c range in
    let e : 10 * n + (c - 48) ≡ n * 10 + digit_value c = omega arith in
    rw e (same_value (n * 10 + digit_value c) cs d.1)

pub all_digits : (ds : List ℕ) → Each is_digit ds → list_all is_digit ds ≡ true
all_digits [] e = refl
all_digits (d ∷ ds) e = rw (e.0) (all_digits ds e.1)

pub number_skipped : (ds : List ℕ) → Each is_digit ds → word_item ds ≡ Skipped
unfolding word_item
number_skipped ds e = rw (all_digits ds e) refl

some_digits : (ds : List ℕ) → 0 < length ds → ds ≢ []
some_digits [] h e = omega arith
some_digits (d ∷ ds) h e = cc

-- a number's digits: one or more, and their value
pub record IsNumber (n : ℕ) (ds : List ℕ) : Type 0 where
  pub some : ds ≢ []
  pub each : Each is_digit ds
  pub value : n ≡ digits_value 0 ds

pub numbered : (n : ℕ) → n < 2 ^ 64 → IsNumber n (decimal n)
numbered n small =
    let is = decimal_is_IsNumeral n small in
    record {
      some = some_digits (decimal n) is.0.0;
      each = each_digit (decimal n) is.0.1;
      value = sym (same_value 0 (decimal n) is.0.1 ∙ is.1);
    }

-- What the words of the target and of the counters say.
use Rattle.std.proofs.Common.{◌≡◌, ℕ, zero, suc, ◌+◌, ◌<◌, ◌≤◌, Bool, true, false, ◌&&◌, List, length, Option, Some, None, Result, Ok, Err, refl, sym, ap, ◌∙◌, arith, rules}
use Rattle.std.specs.Prelude.{bytes_eq, decimal, is_some, unwrap_or, ◌==◌}
use Rattle.std.specs.Char.{is_ascii_digit}
use Rattle.std.specs.List.{range_with_len, find, list_all}
use Rattle.std.specs.Str.{IsUtf8}
use Rattle.std.specs.Str.Parse.{digits_value, ParsesUnsigned}
use Rattle.std.proofs.lemmas.Bool.{and_parts, true≢false, eqb-true, leb-true, le-leb, false_from_ne_true}
use Rattle.std.proofs.lemmas.Bool.Decides.{nat_tests}
use Rattle.std.proofs.lemmas.Slice.Eq.{bytes_eq-Decides}
use Rattle.std.proofs.lemmas.Grind.{common_steps}
use Rattle.std.proofs.lemmas.Str.Parse.{IsNumeralModel, numerals_by_value, parse_digits}
use Rattle.std.proofs.lemmas.Str.{IsUtf8-from_ascii}
use Rattle.std.proofs.lemmas.Fmt.{IsAscii-from_digits, decimal_is_IsNumeral}
use Rattle.chess_types.specs.board.Squares.{squares}
use Rattle.chess_types.specs.board.Texts.{square_text}
use Rattle.chess_types.proofs.SquareLemmas.{every_square}
use Rattle.chess_fen.specs.Reading.{square_in, is_counter, counter_in}
use Rattle.chess_fen.specs.declared.fault.FenFault.TheVariants.{Counter}

-- the first square of that name, none where there is none
reads_own : ℕ → Bool
reads_own s = is_some (square_in (square_text s)) && unwrap_or (square_in (square_text s)) 64 == s

all_read : list_all reads_own squares ≡ true
unfolding reads_own square_in squares
all_read = refl

some_is : (o : Option ℕ) (d s : ℕ) → is_some o ≡ true → unwrap_or o d ≡ s → o ≡ Some s
some_is None d s h e = absurd (true≢false (sym h))
some_is (Some x) d s h e = ap (λ y. Some y) e

pub square_named : (field : List ℕ) (s : ℕ) → s < 64 → field ≡ square_text s → square_in field ≡ Some s
unfolding reads_own
square_named field s low is =
    let own = and_parts _ _ (every_square reads_own all_read s low) in
    ap square_in is ∙ some_is (square_in (square_text s)) 64 s own.0 (eqb-true _ _ own.1)

find_none : (p : ℕ → Bool) (a n : ℕ) → ((t : ℕ) → a ≤ t → t < a + n → p t ≡ false) → find p (range_with_len a n) ≡ None
find_none p a zero h = refl
find_none p a (suc n) h =
    let here : p a ≡ false = h a (omega arith) (omega arith) in
    rw here (find_none p (a + 1) n (λ t low high. h t (omega arith) (omega arith)))

pub square_unnamed : (field : List ℕ) → ((s : ℕ) → s < 64 → field ≡ square_text s → ⊥) → square_in field ≡ None
unfolding square_in squares
square_unnamed field other = find_none (λ s. bytes_eq field (square_text s)) 0 64 (λ s low high.
    false_from_ne_true _ (λ same. other s (omega arith) ((bytes_eq-Decides field (square_text s)).0 same)))

pub square_unknown : (field : List ℕ) → ((s : ℕ) → s < 64 → field ≡ square_text s → ◌≡◌ {A = Option ℕ} None (Some s)) → square_in field ≡ None
square_unknown field complete = square_unnamed field (λ s low is. absurd (cc (complete s low is)))

digits_own : IsNumeralModel (λ ds. list_all is_ascii_digit ds ≡ true) (digits_value 10)
digits_own = numerals_by_value _ (search rules)

-- where a test fails
not_counter : (field : List ℕ) → (list_all is_ascii_digit field ≡ true → 0 < length field → digits_value 10 field ≤ 99999 → ⊥) → Err Counter ≡ counter_in field
unfolding counter_in
not_counter field refuted =
    let none : is_counter field ≡ false =
    false_from_ne_true _ (λ passed.
    let outer = and_parts _ _ passed in
    let inner = and_parts _ _ outer.0 in
    refuted inner.1 (leb-true 1 _ inner.0) (leb-true _ 99999 outer.1)) in
    rw none refl

pub no_digits : (field : List ℕ) → list_all is_ascii_digit field ≡ false → Err Counter ≡ counter_in field
no_digits field other = not_counter field (λ digits some small. true≢false (sym digits ∙ other))

pub no_text : (field : List ℕ) → list_all is_ascii_digit field ≡ true → (IsUtf8 field → ⊥) → Err Counter ≡ counter_in field
no_text field digits other = absurd (other (IsUtf8-from_ascii field (IsAscii-from_digits field (digits_own.to field digits))))

-- what `parse` says of digits
module _ {E : Type 0} (field : List ℕ) (r : Result ℕ E) (digits : list_all is_ascii_digit field ≡ true) (parsed : ParsesUnsigned 32 10 field r) where
  pub counter_read : (value : ℕ) → r ≡ Ok value → value ≤ 99999 → Ok value ≡ counter_in field
  unfolding counter_in
  counter_read value is small =
      let means = rw is at (parse_digits digits_own 32 field r parsed digits) in
      let value_is : value ≡ digits_value 10 field = means.1 in
      let some : 0 < length field = means.0.0 in
      grind (arith, nat_tests, digits)

  pub counter_over : (value : ℕ) → r ≡ Ok value → 99999 < value → Err Counter ≡ counter_in field
  counter_over value is large =
      let means = rw is at (parse_digits digits_own 32 field r parsed digits) in
      not_counter field (λ _ some small. absurd (omega (arith, means.1)))

  pub counter_bad : (error : E) → r ≡ Err error → Err Counter ≡ counter_in field
  counter_bad error is =
      let means = rw is at (parse_digits digits_own 32 field r parsed digits) in
      not_counter field (λ _ some small. means (some, omega arith))

pub counter_small : (field : List ℕ) (value : ℕ) → Ok value ≡ counter_in field → value ≤ 99999
unfolding counter_in
counter_small field value is = grind (arith, nat_tests, common_steps)

-- a counter that is written is read back
pub counter_written : (n : ℕ) → n ≤ 99999 → counter_in (decimal n) ≡ Ok n
unfolding counter_in
counter_written n small =
    let numeral = decimal_is_IsNumeral n (omega arith) in
    let some = le-leb 1 (length (decimal n)) numeral.0.0 in
    let digits = digits_own.from (decimal n) numeral.0.1 in
    let within = le-leb n 99999 small in
    rw (some, digits, numeral.1, within) refl

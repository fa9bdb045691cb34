-- Comments whose end was looked for and isn't at hand.
use Rattle.std.proofs.Common.{◌≡◌, ◌≤◌, ℕ, zero, suc, ◌+◌, ◌-◌, Bool, true, List, [], ◌∷◌, ◌++◌, length, take, drop, refl, sym, ap, subst, ◌∙◌, arith, None}
use Rattle.std.specs.List.{list_all}
use Rattle.std.proofs.lemmas.Bool.{and_parts, and_from}
use Rattle.std.proofs.Math.Seq.{take-add, take-length}
use Rattle.std.proofs.lemmas.List.{drop-drop, take-take}
use Rattle.chess_items.specs.Items.{in_braces, in_line, is_blank, is_digit, is_glyph, is_name_byte, is_outside, is_word_byte}
use Rattle.chess_items.specs.steps.ItemAt.{braces_found, item_at, outside_at, run_at, sign_at}
use Rattle.chess_items.specs.steps.Deciding.{Decides, is_open, outside_open, sign_open}
use Rattle.chess_items.specs.steps.Unended.{BeginsComment, IsSearched}
use Rattle.chess_items.specs.declared.cut.Comment.TheVariants.{Braces, Line}
use Rattle.chess_items.specs.declared.place.Place.{Place}
use Rattle.chess_items.specs.declared.place.Place.TheVariants.{GameStart, LineStart, InLine}
use Rattle.chess_items.proofs.OfferLemmas.{decides_longer}
use Rattle.chess_items.proofs.OpenLemmas.{nothing_undecided, open_if, open_undecided, run_whole}

-- ---- bytes that all pass

-- the first of them
pub front_passes : (p : ℕ → Bool) (xs : List ℕ) (m n : ℕ) → m ≤ n → list_all p (take n xs) ≡ true → list_all p (take m xs) ≡ true
front_passes p xs zero n le h = refl
front_passes p [] (suc m) n le h = refl
front_passes p (x ∷ xs) (suc m) zero le h = absurd (omega (arith, le))
front_passes p (x ∷ xs) (suc m) (suc n) le h = let two = and_parts _ _ h in and_from _ _ two.0 (front_passes p xs m n (omega (arith, le)) two.1)

-- of bytes that all pass
pub all_pass : (p : ℕ → Bool) (xs : List ℕ) (m : ℕ) → list_all p xs ≡ true → list_all p (take m xs) ≡ true
all_pass p xs zero h = refl
all_pass p [] (suc m) h = refl
all_pass p (x ∷ xs) (suc m) h = let two = and_parts _ _ h in and_from _ _ two.0 (all_pass p xs m two.1)

-- the later of them
pub later_passes : (p : ℕ → Bool) (k : ℕ) (xs : List ℕ) (n : ℕ) → list_all p (take n xs) ≡ true → list_all p (take (n - k) (drop k xs)) ≡ true
later_passes p zero xs n h = let e : n ≡ n - 0 = omega arith in subst (λ (m : ℕ). list_all p (take m xs) ≡ true) e h
later_passes p (suc k) [] n h = all_pass p [] (n - suc k) refl
later_passes p (suc k) (x ∷ xs) zero h = let e : 0 ≡ 0 - suc k = omega arith in subst (λ (m : ℕ). list_all p (take m (drop k xs)) ≡ true) e refl
later_passes p (suc k) (x ∷ xs) (suc n) h =
    let e : n - k ≡ suc n - suc k = omega arith in subst (λ (m : ℕ). list_all p (take m (drop k xs)) ≡ true) e (later_passes p k xs n (and_parts _ _ h).1)

-- more bytes are used
pub searched_on : (p : ℕ → Bool) (to dropped used later : ℕ) (bytes : List ℕ) → used ≤ later → IsSearched p to dropped used bytes → IsSearched p to dropped later bytes
searched_on p to dropped used later bytes le s = record {
  passes =
      let k = later - used in
      let e : to - (dropped + used) - k ≡ to - (dropped + later) = omega (arith, le) in
      let n : used + k ≡ later = omega (arith, le) in
      let d : drop k (drop used bytes) ≡ drop later bytes = drop-drop k used bytes ∙ ap (λ (m : ℕ). drop m bytes) n in
      subst (λ (m : ℕ). list_all p (take m (drop later bytes)) ≡ true) e
      (subst (λ (x : List ℕ). list_all p (take (to - (dropped + used) - k) x) ≡ true) d (later_passes p k (drop used bytes) (to - (dropped + used)) s.passes));
  within = s.within;
}

-- ---- a comment

braces_open : (place : Place) (rest : List ℕ) → is_outside place ≡ true → is_open place (123 ∷ rest) ≡ list_all in_braces rest
unfolding is_open outside_open sign_open is_word_byte is_name_byte is_digit is_blank is_glyph
braces_open GameStart rest e = refl
braces_open LineStart rest e = refl
braces_open InLine rest e = refl
braces_open _ rest e = absurd cc

line_open : (place : Place) (rest : List ℕ) → is_outside place ≡ true → is_open place (59 ∷ rest) ≡ list_all in_line rest
unfolding is_open outside_open sign_open is_word_byte is_name_byte is_digit is_blank is_glyph
line_open GameStart rest e = refl
line_open LineStart rest e = refl
line_open InLine rest e = refl
line_open _ rest e = absurd cc

-- whose end isn't among the first bytes
open_front : (place : Place) (p : ℕ → Bool) (b : ℕ) (rest : List ℕ) (n : ℕ) → ((xs : List ℕ) → is_open place (b ∷ xs) ≡ list_all p xs) → list_all p (take n (b ∷ rest)) ≡ true → Decides place (take n (b ∷ rest)) → ⊥
open_front place p b rest zero is h = nothing_undecided place
open_front place p b rest (suc n) is h = open_undecided place (b ∷ take n rest) (is (take n rest) ∙ (and_parts _ _ h).1)

module _ {place : Place} {bytes : List ℕ} where
  pub braces_undecided : (to dropped used n : ℕ) (all : List ℕ) → BeginsComment Braces place bytes → IsSearched in_braces to dropped used all → bytes ≡ drop used all → n ≤ to - (dropped + used) → Decides place (take n bytes) → ⊥
  braces_undecided to dropped used n all c s e few =
      let passes : list_all in_braces (take n bytes) ≡ true = subst (λ (x : List ℕ). list_all in_braces (take n x) ≡ true) (sym e) (front_passes in_braces (drop used all) n (to - (dropped + used)) few s.passes) in
      subst (λ (x : List ℕ). Decides place (take n x) → ⊥) (sym c.first)
      (open_front place in_braces 123 c.rest n (λ xs. braces_open place xs c.outside) (subst (λ (x : List ℕ). list_all in_braces (take n x) ≡ true) c.first passes))

  pub line_undecided : (to dropped used n : ℕ) (all : List ℕ) → BeginsComment Line place bytes → IsSearched in_line to dropped used all → bytes ≡ drop used all → n ≤ to - (dropped + used) → Decides place (take n bytes) → ⊥
  line_undecided to dropped used n all c s e few =
      let passes : list_all in_line (take n bytes) ≡ true = subst (λ (x : List ℕ). list_all in_line (take n x) ≡ true) (sym e) (front_passes in_line (drop used all) n (to - (dropped + used)) few s.passes) in
      subst (λ (x : List ℕ). Decides place (take n x) → ⊥) (sym c.first)
      (open_front place in_line 59 c.rest n (λ xs. line_open place xs c.outside) (subst (λ (x : List ℕ). list_all in_line (take n x) ≡ true) c.first passes))

  -- bytes at hand that don't decide it have no right brace
  pub braces_searched : (dropped used len : ℕ) (all : List ℕ) → BeginsComment Braces place bytes → (Decides place bytes → ⊥) → bytes ≡ drop used all → len ≡ length all → IsSearched in_braces (dropped + len) dropped used all
  braces_searched dropped used len all c undecided e n = record {
    passes =
        let opened : is_open place (123 ∷ c.rest) ≡ true = subst (λ (x : List ℕ). is_open place x ≡ true) c.first (open_if place bytes undecided) in
        let whole : list_all in_braces bytes ≡ true = subst (λ (x : List ℕ). list_all in_braces x ≡ true) (sym c.first) (sym (braces_open place c.rest c.outside) ∙ opened) in
        all_pass in_braces (drop used all) (dropped + len - (dropped + used)) (subst (λ (x : List ℕ). list_all in_braces x ≡ true) e whole);
    within = omega (arith, n);
  }

  -- and no line feed
  pub line_searched : (dropped used len : ℕ) (all : List ℕ) → BeginsComment Line place bytes → (Decides place bytes → ⊥) → bytes ≡ drop used all → len ≡ length all → IsSearched in_line (dropped + len) dropped used all
  line_searched dropped used len all c undecided e n = record {
    passes =
        let opened : is_open place (59 ∷ c.rest) ≡ true = subst (λ (x : List ℕ). is_open place x ≡ true) c.first (open_if place bytes undecided) in
        let whole : list_all in_line bytes ≡ true = subst (λ (x : List ℕ). list_all in_line x ≡ true) (sym c.first) (sym (line_open place c.rest c.outside) ∙ opened) in
        all_pass in_line (drop used all) (dropped + len - (dropped + used)) (subst (λ (x : List ℕ). list_all in_line x ≡ true) e whole);
    within = omega (arith, n);
  }

braces_item : (place : Place) (rest : List ℕ) → is_outside place ≡ true → item_at place (123 ∷ rest) ≡ run_at in_braces braces_found rest
unfolding item_at outside_at sign_at is_word_byte is_name_byte is_digit is_blank is_glyph
braces_item GameStart rest e = refl
braces_item LineStart rest e = refl
braces_item InLine rest e = refl
braces_item _ rest e = absurd cc

-- a comment between braces that isn't decided is no item yet
pub braces_none : (place : Place) (bytes : List ℕ) (looked : ℕ) → BeginsComment Braces place bytes → (Decides place (take looked bytes) → ⊥) → looked ≡ length bytes → item_at place bytes ≡ None
braces_none place bytes looked c undecided n =
    let all : take looked bytes ≡ bytes = ap (λ (k : ℕ). take k bytes) n ∙ take-length bytes in
    let opened : is_open place (123 ∷ c.rest) ≡ true = subst (λ (x : List ℕ). is_open place x ≡ true) c.first (open_if place bytes (subst (λ (x : List ℕ). Decides place x → ⊥) all undecided)) in
    subst (λ (x : List ℕ). item_at place x ≡ None) (sym c.first)
    (braces_item place c.rest c.outside ∙ run_whole in_braces braces_found c.rest (sym (braces_open place c.rest c.outside) ∙ opened))

-- fewer bytes decide no more
pub fewer_undecided : (place : Place) (bytes : List ℕ) (n m most : ℕ) → n ≤ m → n ≤ most → (Decides place (take m bytes) → ⊥) → Decides place (take n (take most bytes)) → ⊥
fewer_undecided place bytes n m most less few undecided d =
    let k = m - n in
    let e : n + k ≡ m = omega (arith, less) in
    let whole : take m bytes ≡ take n bytes ++ take k (drop n bytes) = subst (λ (j : ℕ). take j bytes ≡ take n bytes ++ take k (drop n bytes)) e (take-add n k bytes) in
    let here : Decides place (take n bytes) = subst (λ (x : List ℕ). Decides place x) (take-take n most bytes few) d in
    undecided (subst (λ (x : List ℕ). Decides place x) (sym whole) (decides_longer place (take n bytes) (take k (drop n bytes)) here))

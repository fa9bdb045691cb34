-- A scan goes on where it stopped.
use Rattle.std.proofs.Common.{◌≡◌, ℕ, suc, ◌+◌, ◌-◌, ◌*◌, ◌<◌, ◌≤◌, Bool, true, false, eqb, ltb, ◌&&◌, List, [], ◌∷◌, ◌++◌, length, take, drop, refl, sym, ap, subst, ◌∙◌, arith, length-drop, length-take-le, is_some, cond, Some, None}
use Rattle.std.specs.List.{list_all, prefix_len}
use Rattle.std.proofs.Math.Seq.{take-add}
use Rattle.std.proofs.lemmas.Bool.{ltb-true, ltb-false}
use Rattle.std.proofs.lemmas.Bool.Decides.{nat_tests}
use Rattle.std.proofs.lemmas.List.{take-append-drop}
use Rattle.std.proofs.lemmas.List.Folds.{list_all-append}
use Rattle.chess_items.specs.Items.{digits_value}
use Rattle.chess_items.specs.steps.ItemAt.{small}
use Rattle.chess_items.proofs.ClosedLemmas.{digits-append}

pub resumes : (p : ℕ → Bool) (from : ℕ) (bytes : List ℕ) → list_all p (take from bytes) ≡ true → list_all p (drop from bytes) ≡ list_all p bytes
resumes p from bytes seen =
    let e = list_all-append p (take from bytes) (drop from bytes) in
    sym (ap (list_all p) (sym (take-append-drop from bytes)) ∙ e ∙ rw seen refl)

same_next : (m n : ℕ) → eqb (1 + m) (suc n) ≡ eqb m n
same_next m n = grind (arith, nat_tests)

run_step : (v w : Bool) (m n : ℕ) → eqb m n ≡ w → eqb (cond v (1 + m) 0) (suc n) ≡ v && w
run_step true w m n e = same_next m n ∙ e
run_step false w m n e = grind (arith, nat_tests)

-- a longest run that has all bytes
pub whole_run : (p : ℕ → Bool) (bytes : List ℕ) → eqb (prefix_len p bytes) (length bytes) ≡ list_all p bytes
whole_run p [] = refl
whole_run p (b ∷ bytes) = run_step (p b) (list_all p bytes) (prefix_len p bytes) (length bytes) (whole_run p bytes)

-- Three digits more make a number at least a thousand times as large.
three_more : (n : ℕ) (w : List ℕ) → length w ≡ 3 → 1000 * n ≤ digits_value n w
three_more n [] e = absurd (omega arith)
three_more n (a ∷ []) e = absurd (omega arith)
three_more n (a ∷ b ∷ []) e = absurd (omega arith)
three_more n (a ∷ b ∷ c ∷ []) e = omega arith
three_more n (a ∷ b ∷ c ∷ d ∷ w) e = absurd (omega arith)

-- a small number has only zeros before its last three digits
zeros_before : (prefix w : List ℕ) → length w ≡ 3 → digits_value 0 (prefix ++ w) < 256 → digits_value 0 prefix ≡ 0
zeros_before prefix w e low =
    let a = digits-append 0 prefix w in
    let b = three_more (digits_value 0 prefix) w e in
    omega (arith, a, b)

-- the first digits up to the last three of those seen
zeros_at : (digits : List ℕ) (seen : ℕ) → seen ≤ length digits → digits_value 0 (take seen digits) < 256 → digits_value 0 (take (seen - 3) digits) ≡ 0
zeros_at digits seen within low = go (ltb seen 3) refl
  where
    go : (v : Bool) → ltb seen 3 ≡ v → digits_value 0 (take (seen - 3) digits) ≡ 0
    go true e = (let z : seen - 3 ≡ 0 = omega (arith, ltb-true seen 3 e) in rw z refl)
    go false e =
        let from = seen - 3 in
        let large : 3 ≤ seen = ltb-false seen 3 e in
        let split : take seen digits ≡ take from digits ++ take 3 (drop from digits) =
        (let s : from + 3 ≡ seen = omega arith in subst (λ (n : ℕ). take n digits ≡ take from digits ++ take 3 (drop from digits)) s (take-add from 3 digits)) in
        let three : length (take 3 (drop from digits)) ≡ 3 = (let l = length-drop from digits in length-take-le 3 (drop from digits) (omega arith)) in
        zeros_before (take from digits) (take 3 (drop from digits)) three (subst (λ (x : List ℕ). digits_value 0 x < 256) split low)

pub same_number : (digits : List ℕ) (seen : ℕ) → seen ≤ length digits → digits_value 0 (take seen digits) < 256 → digits_value 0 (drop (seen - 3) digits) ≡ digits_value 0 digits
same_number digits seen within low =
    let from = seen - 3 in
    let z = zeros_at digits seen within low in
    sym (ap (digits_value 0) (sym (take-append-drop from digits)) ∙ digits-append 0 (take from digits) (drop from digits) ∙ rw z refl)

pub some_small : (n : ℕ) → is_some (small n) ≡ ltb n 256
some_small n = go (ltb n 256)
  where
    go : (v : Bool) → is_some (cond v (Some n) None) ≡ v
    go true = refl
    go false = refl

-- Words as sets: complements, subsets and equality; files, ranks and the squares of a colour.
use Rattle.std.proofs.Common.{◌≡◌, ℕ, ◌-◌, ◌*◌, ◌%◌, ◌^◌, ◌<◌, ◌≤◌, Bool, true, false, not, ◌&&◌, ◌||◌, ◌==◌, ltb, nat_eq, List, [], ◌∷◌, filter, refl, sym, ap, ◌∙◌, arith, w64, inl, inr}
use Rattle.std.specs.Prelude.{bit_and}
use Rattle.std.specs.Int.{bit_at}
use Rattle.std.specs.Int.Bits.{and_lt}
use Rattle.std.specs.List.{list_all, range_with_len}
use Rattle.std.specs.Ordering.{nat_cmp}
use Rattle.std.specs.FinSet.{FinSet, contains, difference, empty, is_subset, contains-difference, contains-empty, is_subset-contains, contains-is_subset, same_set, nat_cmp-IsAntisymmetric}
use Rattle.std.proofs.lemmas.Bool.{cases_Bool, cases_lt, eqb-true, eq-eqb, true≢false, false_from_ne_true}
use Rattle.std.proofs.lemmas.Bool.Decides.{nat_tests}
use Rattle.std.proofs.lemmas.Cmp.{nat_cmp_total}
use Rattle.std.proofs.lemmas.Nat.Bits.{bit_at_not, bit_at-lt}
use Rattle.chess_types.specs.board.Squares.{squares, file_of, rank_of}
use Rattle.chess_types.specs.board.Bits.{set_of, bits_of, word_where}
use Rattle.chess_types.specs.board.Dead.{is_light}
use Rattle.chess_types.specs.board.Repetition.{same_bool}
use Rattle.chess_types.specs.board.Sets.{same_squares, same_each}
use Rattle.chess_types.specs.steps.SetWords.{word_of-set_of}
use Rattle.chess_types.specs.steps.SetLaws.{same_squares-is, same_squares-self}
use Rattle.chess_types.proofs.BitLemmas.{contains-set_of, contains-word_where, set_of-and_not, set_of_zero, below-set_of}
use Rattle.chess_types.proofs.Runs.{list_all_at, list_all_from, same_test}

not_one : (b : ℕ) → b < 2 → (1 - b == 1) ≡ not (b == 1)
not_one b h = grind (arith, nat_tests)

pub set_of-not : (a q : ℕ) → a < 2 ^ 64 → contains (set_of (18446744073709551615 - a)) q ≡ (ltb q 64 && not (contains (set_of a) q))
set_of-not a q fits =
    elim (cases_lt q 64) [
      | inl lt ↦ grind (arith, nat_tests, contains-set_of (18446744073709551615 - a) q, contains-set_of a q, bit_at_not w64 a q fits lt, not_one (bit_at a q) (bit_at-lt a q))
      | inr ge ↦ grind (arith, nat_tests, contains-set_of (18446744073709551615 - a) q, contains-set_of a q)
    ]

-- one set has one word
pub same_word : (a b : ℕ) → a < 2 ^ 64 → b < 2 ^ 64 → set_of a ≡ set_of b → a ≡ b
same_word a b fa fb same = sym (word_of-set_of a fa) ∙ ap bits_of same ∙ word_of-set_of b fb

pub same_words : (a b : ℕ) → a < 2 ^ 64 → b < 2 ^ 64 → nat_eq a b ≡ same_squares (set_of a) (set_of b)
same_words a b fa fb =
    same_test (nat_eq a b) (same_squares (set_of a) (set_of b))
    (λ h. ap (λ n. same_squares (set_of a) (set_of n)) (sym (eqb-true a b h)) ∙ same_squares-self (set_of a))
    (λ h. eq-eqb a b (same_word a b fa fb (same_squares-is (set_of a) (set_of b) h)))

none_left : (s t : FinSet nat_cmp) → difference s t ≡ empty → is_subset s t ≡ true
none_left s t none =
    contains-is_subset nat_cmp_total s t (λ q held.
    let out : contains (difference s t) q ≡ false = ap (λ (x : FinSet nat_cmp). contains x q) none ∙ contains-empty nat_cmp q in
    grind (arith, contains-difference nat_cmp_total s t q, held, out))

left_none : (s t : FinSet nat_cmp) → is_subset s t ≡ true → difference s t ≡ empty
left_none s t within =
    same_set nat_cmp_total nat_cmp-IsAntisymmetric (difference s t) empty (λ q.
    contains-difference nat_cmp_total s t q
    ∙ without (contains s q) (contains t q) (is_subset-contains nat_cmp_total s t within q)
    ∙ sym (contains-empty nat_cmp q))
  where
    without : (a b : Bool) → (a ≡ true → b ≡ true) → (a && not b) ≡ false
    without true b h = ap not (h refl)
    without false b h = refl

pub subset_words : (a b : ℕ) → a < 2 ^ 64 → b < 2 ^ 64 →
    nat_eq (bit_and a (18446744073709551615 - b)) 0 ≡ is_subset (set_of a) (set_of b)
subset_words a b fa fb =
    let rest = bit_and a (18446744073709551615 - b) in
    let fits : rest < 2 ^ 64 = and_lt 64 a (18446744073709551615 - b) fa (omega arith) in
    let is : set_of rest ≡ difference (set_of a) (set_of b) = set_of-and_not a b fb in
    same_test (nat_eq rest 0) (is_subset (set_of a) (set_of b))
    (λ h. none_left (set_of a) (set_of b) (sym is ∙ ap set_of (eqb-true rest 0 h) ∙ set_of_zero))
    (λ h. eq-eqb rest 0 (same_word rest 0 fits (omega arith) (is ∙ left_none (set_of a) (set_of b) h ∙ sym set_of_zero)))

-- ---- the squares of the board alone

-- a test of those that are let through is a test of all
pub all_filtered : (p q : ℕ → Bool) (xs : List ℕ) → list_all q (filter p xs) ≡ list_all (λ s. not (p s) || q s) xs
all_filtered p q [] = refl
all_filtered p q (x ∷ xs) =
    elim (cases_Bool (p x)) as (λ _. list_all q (filter p (x ∷ xs)) ≡ list_all (λ s. not (p s) || q s) (x ∷ xs)) [
      | inl h ↦ rw (h, all_filtered p q xs) refl
      | inr h ↦ rw (h, all_filtered p q xs) refl
    ]

abbrev IsOnBoard : FinSet nat_cmp → Type 0
IsOnBoard s = (q : ℕ) → contains s q ≡ true → q < 64

subset_each : (s t : FinSet nat_cmp) → IsOnBoard s → is_subset s t ≡ list_all (contains t) (filter (contains s) squares)
unfolding squares
subset_each s t on =
    same_test (is_subset s t) (list_all (contains t) (filter (contains s) squares))
    (λ h. all_filtered (contains s) (contains t) squares ∙ list_all_from (λ q. not (contains s q) || contains t q) 0 64
    (λ q low high. implied (contains s q) (contains t q) (is_subset-contains nat_cmp_total s t h q)))
    (λ h. contains-is_subset nat_cmp_total s t (λ q held. implies (contains s q) (contains t q)
    (list_all_at (λ q. not (contains s q) || contains t q) 0 64 q (sym (all_filtered (contains s) (contains t) squares) ∙ h) (omega arith) (on q held)) held))
  where
    implied : (a b : Bool) → (a ≡ true → b ≡ true) → (not a || b) ≡ true
    implied true b h = h refl
    implied false b h = refl

    implies : (a b : Bool) → (not a || b) ≡ true → a ≡ true → b ≡ true
    implies true b h held = h
    implies false b h held = absurd (true≢false (sym held))

off_board : (s : FinSet nat_cmp) (q : ℕ) → IsOnBoard s → 64 ≤ q → contains s q ≡ false
off_board s q on far = false_from_ne_true (contains s q) (λ held. absurd (omega (arith, on q held, far)))

one_each : (s t : FinSet nat_cmp) → IsOnBoard s → IsOnBoard t → same_squares s t ≡ same_each s t
unfolding same_each squares
one_each s t on_s on_t =
    same_test (same_squares s t) (same_each s t)
    (λ h. list_all_from (λ q. same_bool (contains s q) (contains t q)) 0 64 (λ q low high.
    ap (λ x. same_bool (contains s q) (contains x q)) (sym (same_squares-is s t h)) ∙ itself (contains s q)))
    (λ h.
    let is : s ≡ t = same_set nat_cmp_total nat_cmp-IsAntisymmetric s t (λ q.
    elim (cases_lt q 64) [
      | inl lt ↦ alike (contains s q) (contains t q) (list_all_at (λ q. same_bool (contains s q) (contains t q)) 0 64 q h (omega arith) lt)
      | inr ge ↦ off_board s q on_s (omega arith) ∙ sym (off_board t q on_t (omega arith))
    ]) in
    ap (same_squares s) (sym is) ∙ same_squares-self s)
  where
    itself : (b : Bool) → same_bool b b ≡ true
    itself true = refl
    itself false = refl

    alike : (a b : Bool) → same_bool a b ≡ true → a ≡ b
    alike true b h = sym h
    alike false true h = h
    alike false false h = refl

pub subset_squares : (a b : ℕ) → is_subset (set_of a) (set_of b) ≡ list_all (contains (set_of b)) (filter (contains (set_of a)) squares)
subset_squares a b = subset_each (set_of a) (set_of b) (below-set_of a)

pub same_each_square : (a b : ℕ) → same_squares (set_of a) (set_of b) ≡ same_each (set_of a) (set_of b)
same_each_square a b = one_each (set_of a) (set_of b) (below-set_of a) (below-set_of b)

-- ---- files, ranks, and colours of squares

light_word : word_where is_light ≡ 6172840429334713770
unfolding word_where squares
light_word = refl

dark_word : word_where (λ s. not (is_light s)) ≡ 12273903644374837845
unfolding word_where squares
dark_word = refl

pub in_light : (s : ℕ) → contains (set_of 6172840429334713770) s ≡ (ltb s 64 && is_light s)
in_light s = ap (λ w. contains (set_of w) s) (sym light_word) ∙ contains-word_where is_light s

pub in_dark : (s : ℕ) → contains (set_of 12273903644374837845) s ≡ (ltb s 64 && not (is_light s))
in_dark s = ap (λ w. contains (set_of w) s) (sym dark_word) ∙ contains-word_where (λ s. not (is_light s)) s

abbrev file_word : ℕ → ℕ
file_word n = 72340172838076673 * 2 ^ n % 18446744073709551616

abbrev rank_word : ℕ → ℕ
rank_word n = 255 * 2 ^ (8 * n) % 18446744073709551616

file_words : list_all (λ n. nat_eq (word_where (λ s. file_of s == n)) (file_word n)) (range_with_len 0 8) ≡ true
unfolding word_where squares
file_words = refl

rank_words : list_all (λ n. nat_eq (word_where (λ s. rank_of s == n)) (rank_word n)) (range_with_len 0 8) ≡ true
unfolding word_where squares
rank_words = refl

pub in_file : (n s : ℕ) → n < 8 → contains (set_of (file_word n)) s ≡ (ltb s 64 && (file_of s == n))
in_file n s h =
    let same : word_where (λ s. file_of s == n) ≡ file_word n =
    eqb-true _ _ (list_all_at (λ n. nat_eq (word_where (λ s. file_of s == n)) (file_word n)) 0 8 n file_words (omega arith) (omega arith)) in
    ap (λ w. contains (set_of w) s) (sym same) ∙ contains-word_where (λ s. file_of s == n) s

pub in_rank : (n s : ℕ) → n < 8 → contains (set_of (rank_word n)) s ≡ (ltb s 64 && (rank_of s == n))
in_rank n s h =
    let same : word_where (λ s. rank_of s == n) ≡ rank_word n =
    eqb-true _ _ (list_all_at (λ n. nat_eq (word_where (λ s. rank_of s == n)) (rank_word n)) 0 8 n rank_words (omega arith) (omega arith)) in
    ap (λ w. contains (set_of w) s) (sym same) ∙ contains-word_where (λ s. rank_of s == n) s

-- The only king of a colour, and the men that attack it; and the kings of a colour gone through, whether one is attacked.
use Rattle.std.proofs.Common.{◌≡◌, ℕ, zero, suc, ◌+◌, ◌<◌, ◌≤◌, Bool, true, false, ◌&&◌, refl, sym, ap, subst, ◌∙◌, arith, inl, inr}
use Rattle.std.specs.Ordering.{nat_cmp}
use Rattle.std.specs.Cmp.{unsigned_tied}
use Rattle.std.specs.FinSet.{FinSet, contains, remove, contains-remove}
use Rattle.std.proofs.lemmas.Cmp.{nat_cmp_total}
use Rattle.std.proofs.lemmas.Bool.{and_parts, and_from, cases_Bool, cases_eq, cases_order, true≢false}
use Rattle.std.proofs.lemmas.Bool.Decides.{nat_tests}
use Rattle.chess_types.specs.declared.board.man.Colour.{Colour}
use Rattle.chess_types.specs.board.Board.{Board, Men, man_at}
use Rattle.chess_types.specs.board.Squares.{squares}
use Rattle.chess_types.specs.board.Men.{count_squares, is_king_of, kings_of, opponent}
use Rattle.chess_types.specs.board.Attack.{attacks_for, checks_from, is_attacked, in_check}
use Rattle.chess_types.specs.steps.KeptSets.{Gathers}
use Rattle.chess_types.proofs.Sums.{bit, total, sum_by-range, total-at, total-agree, total-zero}
use Rattle.chess_types.proofs.Runs.{list_any_at, list_any_from, same_test}

-- two values are at most the sum
total-pair : (f : ℕ → ℕ) (i j a n : ℕ) → a ≤ i → i < j → j < a + n → f i + f j ≤ total f a n
unfolding total
total-pair f i j a zero low order high = absurd (omega arith)
total-pair f i j a (suc n) low order high =
    elim (cases_eq a i) [
      | inl same ↦
          let e : f a ≡ f i = ap f same in
          let rest : f j ≤ total f (a + 1) n = total-at f j (a + 1) n (omega arith) (omega arith) in
          omega arith
      | inr other ↦ omega (arith, total-pair f i j (a + 1) n (omega arith) order (omega arith))
    ]

kings_total : (board : Board) (colour : Colour) → kings_of board colour ≡ total (λ s. bit (is_king_of colour (man_at board s))) 0 64
unfolding count_squares squares
kings_total board colour = sum_by-range (λ s. bit (is_king_of colour (man_at board s))) 0 64

-- a board with one king has one
pub no_king :
    (board : Board) (colour : Colour) → kings_of board colour ≡ 1 → ((s : ℕ) → s < 64 → is_king_of colour (man_at board s) ≡ false) → ⊥
no_king board colour one none =
    let zeros : total (λ s. bit (is_king_of colour (man_at board s))) 0 64 ≡ total (λ s. 0) 0 64 =
    total-agree (λ s. bit (is_king_of colour (man_at board s))) (λ s. 0) 0 64 (λ s low high. ap bit (none s high)) in
    omega (arith, kings_total board colour, total-zero (λ s. 0) 0 64 (λ s. refl))

-- and no other
ordered_kings :
    (board : Board) (colour : Colour) (s t : ℕ) → kings_of board colour ≡ 1 → s < t → t < 64 → is_king_of colour (man_at board s) ≡ true →
    is_king_of colour (man_at board t) ≡ true → ⊥
ordered_kings board colour s t one order ht hs' ht' =
    let f : ℕ → ℕ = λ x. bit (is_king_of colour (man_at board x)) in
    let at_s : f s ≡ 1 = ap bit hs' in
    let at_t : f t ≡ 1 = ap bit ht' in
    omega (arith, kings_total board colour, total-pair f s t 0 64 (omega arith) order ht)

pub one_king :
    (board : Board) (colour : Colour) (s t : ℕ) → kings_of board colour ≡ 1 → s < 64 → t < 64 → is_king_of colour (man_at board s) ≡ true →
    is_king_of colour (man_at board t) ≡ true → s ≡ t
one_king board colour s t one hs ht at_s at_t =
    elim (cases_order s t) [
      | inl same ↦ same
      | inr other ↦
          absurd (elim other [
            | inl up ↦ ordered_kings board colour s t one up ht at_s at_t
            | inr down ↦ ordered_kings board colour t s one down hs at_t at_s
          ])
    ]

-- a man checks the king where it attacks its square
pub checks_at :
    (board : Board) (colour : Colour) (king a : ℕ) → kings_of board colour ≡ 1 → king < 64 → is_king_of colour (man_at board king) ≡ true →
    attacks_for (man_at board a) (opponent colour) (man_at board) a king ≡ checks_from (man_at board) colour a
unfolding checks_from squares
checks_at board colour king a one hk here =
    let test : ℕ → Bool = λ s. is_king_of colour (man_at board s) && attacks_for (man_at board a) (opponent colour) (man_at board) a s in
    same_test _ _ (λ h. list_any_from test 0 64 king (omega arith) hk (and_from _ _ here h)) (λ h.
    let (s, low, high, p) : (s : ℕ) × (0 ≤ s) × (s < 0 + 64) × (test s ≡ true) = list_any_at test 0 64 h in
    let q : (is_king_of colour (man_at board s) ≡ true) × (attacks_for (man_at board a) (opponent colour) (man_at board) a s ≡ true) = and_parts _ _ p in
    subst (λ x. attacks_for (man_at board a) (opponent colour) (man_at board) a x ≡ true) (one_king board colour s king one (omega arith) hk q.0 here) q.1)

-- the king is in check where its square is attacked
pub checked_at :
    (board : Board) (colour : Colour) (king : ℕ) → kings_of board colour ≡ 1 → king < 64 → is_king_of colour (man_at board king) ≡ true →
    is_attacked (man_at board) (opponent colour) king ≡ in_check (man_at board) colour
unfolding in_check squares
checked_at board colour king one hk here =
    let test : ℕ → Bool = λ s. is_king_of colour (man_at board s) && is_attacked (man_at board) (opponent colour) s in
    same_test _ _ (λ h. list_any_from test 0 64 king (omega arith) hk (and_from _ _ here h)) (λ h.
    let (s, low, high, p) : (s : ℕ) × (0 ≤ s) × (s < 0 + 64) × (test s ≡ true) = list_any_at test 0 64 h in
    let q : (is_king_of colour (man_at board s) ≡ true) × (is_attacked (man_at board) (opponent colour) s ≡ true) = and_parts _ _ p in
    subst (λ x. is_attacked (man_at board) (opponent colour) x ≡ true) (one_king board colour s king one (omega arith) hk q.0 here) q.1)

-- ---- the kings of a colour gone through

-- those that are left are kings, and no other one is attacked
pub record AreLeft (man_on : Men) (colour : Colour) (left : FinSet nat_cmp) : Type 0 where
  pub kings : (s : ℕ) → contains left s ≡ true → is_king_of colour (man_on s) ≡ true
  pub others : (s : ℕ) → is_king_of colour (man_on s) ≡ true → contains left s ≡ false → is_attacked man_on (opponent colour) s ≡ false

pub all_left : (man_on : Men) (colour : Colour) (left : FinSet nat_cmp) → Gathers left (is_king_of colour) man_on → AreLeft man_on colour left
all_left man_on colour left are = record {
  kings = λ s h. sym (are s) ∙ h;
  others = λ s king out. absurd (true≢false (sym (are s ∙ king) ∙ out));
}

pub one_left :
    (man_on : Men) (colour : Colour) (left : FinSet nat_cmp) (t : ℕ) → AreLeft man_on colour left → is_attacked man_on (opponent colour) t ≡ false →
    AreLeft man_on colour (remove left t)
one_left man_on colour left t so_far safe = record {
  kings = λ s h. so_far.kings s (grind (arith, contains-remove nat_cmp_total left t s, h));
  others = λ s king out.
      elim (cases_eq t s) [
        | inl same ↦ subst (λ x. is_attacked man_on (opponent colour) x ≡ false) same safe
        | inr other ↦
            let kept : contains (remove left t) s ≡ contains left s =
            contains-remove nat_cmp_total left t s ∙ grind (arith, nat_tests, unsigned_tied s t) in
            so_far.others s king (sym kept ∙ out)
      ];
}

pub one_attacked :
    (man_on : Men) (colour : Colour) (left : FinSet nat_cmp) (t : ℕ) → AreLeft man_on colour left → t < 64 → contains left t ≡ true →
    is_attacked man_on (opponent colour) t ≡ true → in_check man_on colour ≡ true
unfolding in_check squares
one_attacked man_on colour left t so_far ht held attacked =
    list_any_from (λ s. is_king_of colour (man_on s) && is_attacked man_on (opponent colour) s) 0 64 t (omega arith) ht
    (and_from _ _ (so_far.kings t held) attacked)

pub none_left :
    (man_on : Men) (colour : Colour) (left : FinSet nat_cmp) → AreLeft man_on colour left → ((s : ℕ) → contains left s ≡ false) →
    in_check man_on colour ≡ false
unfolding in_check squares
none_left man_on colour left so_far none =
    let test : ℕ → Bool = λ s. is_king_of colour (man_on s) && is_attacked man_on (opponent colour) s in
    elim (cases_Bool (in_check man_on colour)) [
      | inr e ↦ e
      | inl h ↦
          let (s, low, high, p) : (s : ℕ) × (0 ≤ s) × (s < 0 + 64) × (test s ≡ true) = list_any_at test 0 64 h in
          let q : (is_king_of colour (man_on s) ≡ true) × (is_attacked man_on (opponent colour) s ≡ true) = and_parts _ _ p in
          absurd (true≢false (sym q.1 ∙ so_far.others s q.0 (none s)))
    ]

-- The leaves, counted move by move, each count at most 2^64 - 1.
use Rattle.std.proofs.Common.{◌≡◌, ℕ, zero, suc, ◌+◌, ◌-◌, ◌^◌, ◌<◌, ◌≤◌, min, Bool, true, not, List, [], ◌∷◌, length, get_or, drop, filter, refl, sym, ap, ◌∙◌, arith, inl, inr, add-one, drop-cons}
use Rattle.std.specs.List.{list_all, sum_by}
use Rattle.std.proofs.lemmas.Bool.{and_parts, cases_Bool}
use Rattle.std.proofs.lemmas.List.Sums.{sum_by-cons}
use Rattle.chess_types.specs.board.Attack.{in_check}
use Rattle.chess_types.specs.board.MoveParts.{MoveParts}
use Rattle.chess_types.specs.board.Position.{PositionParts, man_on}
use Rattle.chess_types.specs.board.Pseudo.{is_pseudo}
use Rattle.chess_types.specs.board.After.{after}
use Rattle.chess_types.proofs.Counters.{clock_more, number_more}
use Rattle.chess_types.specs.board.Legal.{is_legal, legal_moves, all_moves}
use Rattle.perft.specs.Leaves.{leaves_of}

-- the leaves after one move
abbrev pub leaves_after : ℕ → PositionParts → MoveParts → ℕ
leaves_after n p m = leaves_of n (after p m)

-- the count so far, and the legal moves that are still to be counted
pub record Counted (p : PositionParts) (depth count : ℕ) (rest : List MoveParts) : Type 0 where
  pub fits : count < 2 ^ 64
  pub legal : list_all (is_legal p) rest ≡ true
  pub is : min (count + sum_by (leaves_after (depth - 1) p) rest) (2 ^ 64 - 1) ≡ min (leaves_of depth p) (2 ^ 64 - 1)

all_filtered : (test : MoveParts → Bool) (xs : List MoveParts) → list_all test (filter test xs) ≡ true
all_filtered test [] = refl
all_filtered test (x ∷ xs) =
    let rest : list_all test (filter test xs) ≡ true = all_filtered test xs in
    elim (cases_Bool (test x)) [ inl passes ↦ rw (passes, passes) rest | inr out ↦ rw out rest ]

all_legal : (p : PositionParts) → list_all (is_legal p) (legal_moves p) ≡ true
unfolding legal_moves
all_legal p = all_filtered (is_legal p) all_moves

leaves_more : (p : PositionParts) (depth : ℕ) → 1 ≤ depth → leaves_of depth p ≡ sum_by (leaves_after (depth - 1) p) (legal_moves p)
unfolding leaves_of
leaves_more p zero deep = absurd (omega arith)
leaves_more p (suc n) deep = let e : suc n - 1 ≡ n = omega arith in rw e refl

pub counted_begin : (p : PositionParts) (depth : ℕ) (list : List MoveParts) → 1 ≤ depth → list ≡ legal_moves p → Counted p depth 0 list
counted_begin p depth list deep is =
    let sum_is : sum_by (leaves_after (depth - 1) p) list ≡ leaves_of depth p =
    ap (sum_by (leaves_after (depth - 1) p)) is ∙ sym (leaves_more p depth deep) in
    record { fits = omega arith; legal = ap (list_all (is_legal p)) is ∙ all_legal p; is = omega (arith, sum_is) }

saturated : (count one sum : ℕ) → min (min (count + min one (2 ^ 64 - 1)) (2 ^ 64 - 1) + sum) (2 ^ 64 - 1) ≡ min (count + (one + sum)) (2 ^ 64 - 1)
saturated count one sum = omega arith

-- one more move is counted, by the leaves of the position after it
pub counted_next : {p : PositionParts} {depth count : ℕ} {rest : List MoveParts} → Counted p depth count rest → (m : MoveParts) (more : List MoveParts) (now : PositionParts) (one new : ℕ) →
    rest ≡ m ∷ more → now ≡ after p m → one ≡ min (leaves_of (depth - 1) now) (2 ^ 64 - 1) → new ≡ min (count + one) (2 ^ 64 - 1) → Counted p depth new more
counted_next {p} {depth} {count} {rest} counted m more now one new is now_is one_is new_is =
    let legal : list_all (is_legal p) (m ∷ more) ≡ true = ap (list_all (is_legal p)) (sym is) ∙ counted.legal in
    let one_after : one ≡ min (leaves_after (depth - 1) p m) (2 ^ 64 - 1) = one_is ∙ ap (λ (s : PositionParts). min (leaves_of (depth - 1) s) (2 ^ 64 - 1)) now_is in
    let sum_is : sum_by (leaves_after (depth - 1) p) rest ≡ leaves_after (depth - 1) p m + sum_by (leaves_after (depth - 1) p) more =
    ap (sum_by (leaves_after (depth - 1) p)) is ∙ sum_by-cons (leaves_after (depth - 1) p) m more in
    record {
      fits = omega (arith, new_is);
      legal = (and_parts (is_legal p m) (list_all (is_legal p) more) legal).1;
      is =
          ap (λ (n : ℕ). min (n + sum_by (leaves_after (depth - 1) p) more) (2 ^ 64 - 1))
          (new_is ∙ ap (λ (n : ℕ). min (count + n) (2 ^ 64 - 1)) one_after)
          ∙ saturated count (leaves_after (depth - 1) p m) (sum_by (leaves_after (depth - 1) p) more)
          ∙ ap (λ (n : ℕ). min (count + n) (2 ^ 64 - 1)) (sym sum_is)
          ∙ counted.is;
    }

pub counted_end : {p : PositionParts} {depth count : ℕ} {rest : List MoveParts} → Counted p depth count rest → rest ≡ [] → count ≡ min (leaves_of depth p) (2 ^ 64 - 1)
counted_end {p} {depth} {count} {rest} counted none =
    let sum_is : sum_by (leaves_after (depth - 1) p) rest ≡ 0 = ap (sum_by (leaves_after (depth - 1) p)) none in
    let whole : min (count + sum_by (leaves_after (depth - 1) p) rest) (2 ^ 64 - 1) ≡ count = omega (arith, sum_is) in
    sym whole ∙ counted.is

-- the move that stands there is the first of the rest
pub next_move : (xs : List MoveParts) (i : ℕ) (m : MoveParts) → m ≡ get_or xs i m → i < length xs → drop i xs ≡ m ∷ drop (i + 1) xs
next_move xs i m is within = rw add-one (drop-cons xs i m within ∙ ap (λ (x : MoveParts). x ∷ drop (suc i) xs) (sym is))

-- the next move is pseudo-legal; the position is known under two names
pub next_pseudo : {p now : PositionParts} {depth count : ℕ} {rest : List MoveParts} → Counted p depth count rest → now ≡ p → (m : MoveParts) (more : List MoveParts) →
    rest ≡ m ∷ more → is_pseudo now m ≡ true
unfolding is_legal
next_pseudo {p} {now} {depth} {count} {rest} counted same m more is =
    let legal : list_all (is_legal p) (m ∷ more) ≡ true = ap (list_all (is_legal p)) (sym is) ∙ counted.legal in
    let first : is_legal p m ≡ true = (and_parts (is_legal p m) (list_all (is_legal p) more) legal).0 in
    ap (λ (s : PositionParts). is_pseudo s m) same ∙ (and_parts (is_pseudo p m) (not (in_check (man_on (after p m)) p.side)) first).0

sum_of_ones : (f : MoveParts → ℕ) → ((m : MoveParts) → f m ≡ 1) → (xs : List MoveParts) → sum_by f xs ≡ length xs
sum_of_ones f ones [] = refl
sum_of_ones f ones (x ∷ xs) = omega (arith, sum_by-cons f x xs, ones x, sum_of_ones f ones xs)

-- no ply on there is the position alone
pub no_ply : (p : PositionParts) (depth : ℕ) → depth ≡ 0 → 1 ≡ min (leaves_of depth p) (2 ^ 64 - 1)
unfolding leaves_of
no_ply p depth none = ap (λ (n : ℕ). min (leaves_of n p) (2 ^ 64 - 1)) (sym none)

one_leaf : (p : PositionParts) (m : MoveParts) → leaves_after 0 p m ≡ 1
unfolding leaves_of
one_leaf p m = refl

-- one ply on there is one leaf for each legal move
pub one_ply : (p : PositionParts) (depth len : ℕ) (list : List MoveParts) → depth ≡ 1 → len ≡ length list → list ≡ legal_moves p → len < 2 ^ 64 →
    len ≡ min (leaves_of depth p) (2 ^ 64 - 1)
one_ply p depth len list one len_is is fits =
    let leaves : leaves_of depth p ≡ len =
    ap (λ (n : ℕ). leaves_of n p) one
    ∙ leaves_more p 1 (omega arith)
    ∙ sum_of_ones (leaves_after 0 p) (one_leaf p) (legal_moves p)
    ∙ ap length (sym is)
    ∙ sym len_is in
    omega (arith, leaves)

-- A move adds at most one to each counter, so that there is room for the plies after it. The position is known under two names.
pub clock_room : (p now next : PositionParts) (m : MoveParts) (depth : ℕ) → now ≡ p → next ≡ after now m → 1 ≤ depth → p.clock + depth ≤ 1000000 → next.clock + (depth - 1) ≤ 1000000
clock_room p now next m depth same next_is deep room =
    let e : next.clock ≡ (after p m).clock = ap (λ (s : PositionParts). s.clock) (next_is ∙ ap (λ (s : PositionParts). after s m) same) in
    omega (arith, e, clock_more p m)

pub number_room : (p now next : PositionParts) (m : MoveParts) (depth : ℕ) → now ≡ p → next ≡ after now m → 1 ≤ depth → p.number + depth ≤ 1000000 → next.number + (depth - 1) ≤ 1000000
number_room p now next m depth same next_is deep room =
    let e : next.number ≡ (after p m).number = ap (λ (s : PositionParts). s.number) (next_is ∙ ap (λ (s : PositionParts). after s m) same) in
    omega (arith, e, number_more p m)

-- What the value of a line says of forced mates.
use Rattle.std.proofs.Common.{◌≡◌, ℕ, zero, suc, ◌+◌, ◌-◌, ◌/◌, ◌<◌, ◌≤◌, Bool, true, false, not, ◌&&◌, ◌||◌, List, [], ◌∷◌, ◌++◌, length, map, refl, sym, ap, ◌∙◌, subst, arith, ℤ, pos, neg_ℤ, ◌<ℤ◌, ◌≤ℤ◌, ◌-ℤ◌, ◌+ℤ◌, fold, get_or, ◌⊎◌, inl, inr, ⊎_elim, codes, int_div, int_lt}
use Rattle.std.proofs.lemmas.Int.{ints, clamps, by_lt_z, fold-int_max_bounds}
use Rattle.std.proofs.lemmas.Bool.{false≢true, and_parts}
use Rattle.std.proofs.lemmas.List.Elements.{All-head, All-tail, All-cons, All-nil}
use Rattle.std.specs.Int.{int_max}
use Rattle.std.specs.List.{All, list_any, list_all}
use Rattle.std.specs.Fmt.{signed_decimal}
use Rattle.chess_types.specs.declared.board.man.Colour.TheVariants.{White, Black}
use Rattle.chess_types.specs.board.MoveParts.{MoveParts}
use Rattle.chess_types.specs.board.After.{after}
use Rattle.chess_types.specs.board.Attack.{in_check}
use Rattle.chess_types.specs.board.Position.{PositionParts, IsSetup, IsWellFormed, man_on}
use Rattle.chess_types.specs.board.Legal.{legal_moves}
use Rattle.chess_types.specs.board.Lines.{Line, last, extended}
use Rattle.chess_types.proofs.AllMoves.{IsMove}
use Rattle.chess_types.proofs.PlayLaws.{last_extended}
use Rattle.chess_eval.specs.Evaluation.{IsWithin, evaluation, for_white}
use Rattle.chess_eval.proofs.Armies.{armies_within}
use Rattle.chess_moves.proofs.LegalLaws.{legal_well_formed, moves_legal, moves_on_board}
use Rattle.chess_search.specs.Mates.{IsMateIn, IsMatedIn, MateIsForced, MateIsReported, MatedIsForced, MatedIsReported, mates_in, is_mated_in}
use Rattle.chess_search.specs.Scores.{score_text}
use Rattle.chess_search.proofs.WindowLemmas.{value-ended, value-leaf, value-suc}
use Rattle.chess_search.specs.Value.{greatest, counts_drawn, ended, evaluation_for, value, worth}

-- ---- the greatest of some numbers

int_max_keeps : (P : ℤ → Type 0) (a b : ℤ) → P a → P b → P (int_max a b)
int_max_keeps P a b here there =
    by_lt_z a b
    (λ less. let e : b ≡ int_max a b = omega (arith, ints, clamps) in subst P e there)
    (λ more. let e : a ≡ int_max a b = omega (arith, ints, clamps) in subst P e here)

-- what holds of each holds of the greatest
fold_keeps : (P : ℤ → Type 0) (f : MoveParts → ℤ) (a : ℤ) (ms : List MoveParts) → P a → All (λ m. P (f m)) ms → P (fold int_max a (map f ms))
fold_keeps P f a [] here each = here
fold_keeps P f a (m ∷ ms) here each =
    fold_keeps P f (int_max a (f m)) ms (int_max_keeps P a (f m) here (All-head (λ x. P (f x)) m ms each)) (All-tail (λ x. P (f x)) m ms each)

pub greatest_keeps : (P : ℤ → Type 0) (f : MoveParts → ℤ) (m : MoveParts) (ms : List MoveParts) → All (λ x. P (f x)) (m ∷ ms) → P (greatest (map f (m ∷ ms)))
greatest_keeps P f m ms each = fold_keeps P f (f m) ms (All-head (λ x. P (f x)) m ms each) (All-tail (λ x. P (f x)) m ms each)

and_false : (a : Bool) → (a && false) ≡ false
and_false true = refl
and_false false = refl

or_left : (a b : Bool) → a ≡ true → (a || b) ≡ true
or_left a b h = rw h refl

or_right : (a b : Bool) → b ≡ true → (a || b) ≡ true
or_right true b h = refl
or_right false b h = h

or_parts : (a b : Bool) → (a || b) ≡ true → (a ≡ true) ⊎ (b ≡ true)
or_parts true b h = inl refl
or_parts false b h = inr h

and_both : (a b : Bool) → a ≡ true → b ≡ true → (a && b) ≡ true
and_both a b h k = rw (h, k) refl

-- where the greatest is no less than t, some move passes each test that moves of that worth pass
any_reached : (p : MoveParts → Bool) (f : MoveParts → ℤ) (t a : ℤ) (ms : List MoveParts) → All (λ m. t ≤ℤ f m → p m ≡ true) ms →
    t ≤ℤ fold int_max a (map f ms) → (t ≤ℤ a) ⊎ (list_any p ms ≡ true)
any_reached p f t a [] each reached = inl reached
any_reached p f t a (m ∷ ms) each reached = split (any_reached p f t (int_max a (f m)) ms (All-tail (λ x. t ≤ℤ f x → p x ≡ true) m ms each) reached)
  where
    split : (t ≤ℤ int_max a (f m)) ⊎ (list_any p ms ≡ true) → (t ≤ℤ a) ⊎ (list_any p (m ∷ ms) ≡ true)
    split (inr later) = inr (or_right (p m) (list_any p ms) later)
    split (inl here) =
        by_lt_z a t
        (λ less. let own : t ≤ℤ f m = omega (arith, ints, clamps, here) in inr (or_left (p m) (list_any p ms) (All-head (λ x. t ≤ℤ f x → p x ≡ true) m ms each own)))
        (λ more. inl more)

pub any_greatest : (p : MoveParts → Bool) (f : MoveParts → ℤ) (t : ℤ) (m : MoveParts) (ms : List MoveParts) → All (λ x. t ≤ℤ f x → p x ≡ true) (m ∷ ms) →
    t ≤ℤ greatest (map f (m ∷ ms)) → list_any p (m ∷ ms) ≡ true
any_greatest p f t m ms each reached = split (any_reached p f t (f m) ms (All-tail (λ x. t ≤ℤ f x → p x ≡ true) m ms each) reached)
  where
    split : (t ≤ℤ f m) ⊎ (list_any p ms ≡ true) → list_any p (m ∷ ms) ≡ true
    split (inl here) = or_left (p m) (list_any p ms) (All-head (λ x. t ≤ℤ f x → p x ≡ true) m ms each here)
    split (inr later) = or_right (p m) (list_any p ms) later

-- and the other way round
at_least_first : (f : MoveParts → ℤ) (a : ℤ) (ms : List MoveParts) → a ≤ℤ fold int_max a (map f ms)
at_least_first f a ms = (fold-int_max_bounds a (map f ms) (fold int_max a (map f ms)) refl).0

any_over : (p : MoveParts → Bool) (f : MoveParts → ℤ) (t a : ℤ) (ms : List MoveParts) → All (λ m. p m ≡ true → t ≤ℤ f m) ms →
    list_any p ms ≡ true → t ≤ℤ fold int_max a (map f ms)
any_over p f t a [] each some = absurd (false≢true some)
any_over p f t a (m ∷ ms) each some =
    ⊎_elim
    (λ (here : p m ≡ true).
    let own : t ≤ℤ f m = All-head (λ x. p x ≡ true → t ≤ℤ f x) m ms each here in
    let more : int_max a (f m) ≤ℤ fold int_max (int_max a (f m)) (map f ms) = at_least_first f (int_max a (f m)) ms in
    omega (arith, ints, clamps, own, more))
    (λ (later : list_any p ms ≡ true). any_over p f t (int_max a (f m)) ms (All-tail (λ x. p x ≡ true → t ≤ℤ f x) m ms each) later)
    (or_parts (p m) (list_any p ms) some)

pub greatest_any : (p : MoveParts → Bool) (f : MoveParts → ℤ) (t : ℤ) (m : MoveParts) (ms : List MoveParts) → All (λ x. p x ≡ true → t ≤ℤ f x) (m ∷ ms) →
    list_any p (m ∷ ms) ≡ true → t ≤ℤ greatest (map f (m ∷ ms))
greatest_any p f t m ms each some = split (or_parts (p m) (list_any p ms) some)
  where
    split : (p m ≡ true) ⊎ (list_any p ms ≡ true) → t ≤ℤ fold int_max (f m) (map f ms)
    split (inl here) =
        let own : t ≤ℤ f m = All-head (λ x. p x ≡ true → t ≤ℤ f x) m ms each here in
        let more : f m ≤ℤ fold int_max (f m) (map f ms) = at_least_first f (f m) ms in
        omega (arith, ints, own, more)
    split (inr later) = any_over p f t (f m) ms (All-tail (λ x. p x ≡ true → t ≤ℤ f x) m ms each) later

-- where the greatest is no more than t, each move passes each test that moves of that worth pass
all_under : (p : MoveParts → Bool) (f : MoveParts → ℤ) (t a : ℤ) (ms : List MoveParts) → All (λ m. f m ≤ℤ t → p m ≡ true) ms →
    fold int_max a (map f ms) ≤ℤ t → list_all p ms ≡ true
all_under p f t a [] each under = refl
all_under p f t a (m ∷ ms) each under =
    let more : int_max a (f m) ≤ℤ fold int_max (int_max a (f m)) (map f ms) = at_least_first f (int_max a (f m)) ms in
    let own : f m ≤ℤ t = omega (arith, ints, clamps, more, under) in
    and_both (p m) (list_all p ms) (All-head (λ x. f x ≤ℤ t → p x ≡ true) m ms each own)
    (all_under p f t (int_max a (f m)) ms (All-tail (λ x. f x ≤ℤ t → p x ≡ true) m ms each) under)

pub all_greatest : (p : MoveParts → Bool) (f : MoveParts → ℤ) (t : ℤ) (m : MoveParts) (ms : List MoveParts) → All (λ x. f x ≤ℤ t → p x ≡ true) (m ∷ ms) →
    greatest (map f (m ∷ ms)) ≤ℤ t → list_all p (m ∷ ms) ≡ true
all_greatest p f t m ms each under =
    let more : f m ≤ℤ fold int_max (f m) (map f ms) = at_least_first f (f m) ms in
    let own : f m ≤ℤ t = omega (arith, ints, more, under) in
    and_both (p m) (list_all p ms) (All-head (λ x. f x ≤ℤ t → p x ≡ true) m ms each own)
    (all_under p f t (f m) ms (All-tail (λ x. f x ≤ℤ t → p x ≡ true) m ms each) under)

all_passed : (p : MoveParts → Bool) (f : MoveParts → ℤ) (t : ℤ) (ms : List MoveParts) → All (λ m. p m ≡ true → f m ≤ℤ t) ms → list_all p ms ≡ true →
    All (λ m. f m ≤ℤ t) ms
all_passed p f t [] each passed = All-nil (λ m. f m ≤ℤ t)
all_passed p f t (m ∷ ms) each passed =
    let parts = and_parts (p m) (list_all p ms) passed in
    All-cons (λ x. f x ≤ℤ t) m ms (All-head (λ x. p x ≡ true → f x ≤ℤ t) m ms each parts.0)
    (all_passed p f t ms (All-tail (λ x. p x ≡ true → f x ≤ℤ t) m ms each) parts.1)

pub greatest_all : (p : MoveParts → Bool) (f : MoveParts → ℤ) (t : ℤ) (m : MoveParts) (ms : List MoveParts) → All (λ x. p x ≡ true → f x ≤ℤ t) (m ∷ ms) →
    list_all p (m ∷ ms) ≡ true → greatest (map f (m ∷ ms)) ≤ℤ t
greatest_all p f t m ms each passed = greatest_keeps (λ v. v ≤ℤ t) f m ms (all_passed p f t (m ∷ ms) each passed)

-- ---- what the value of a line says

-- How far from the root a line of that value is from its end, and which mates the two sides have.
record Counted (claims : Bool) (depth : ℕ) (line : Line) (distance : ℕ) (v : ℤ) : Type 0 where
  low : (pos distance -ℤ pos 30000) ≤ℤ v
  high : v ≤ℤ (pos 29999 -ℤ pos distance)
  apart : IsWithin 13605 v ⊎ ((v ≤ℤ (pos (distance + depth) -ℤ pos 30000)) ⊎ ((pos 30000 -ℤ pos (distance + depth)) ≤ℤ v))
  wins : (n : ℕ) → n + n ≤ depth + 1 → mates_in claims n line ≡ true → (pos 30001 -ℤ pos (distance + (n + n))) ≤ℤ v
  won : (n : ℕ) → n + n ≤ depth + 1 → (pos 30000 -ℤ pos (distance + (n + n))) ≤ℤ v → mates_in claims n line ≡ true
  loses : (n : ℕ) → n + n ≤ depth → is_mated_in claims n line ≡ true → v ≤ℤ (pos (distance + (n + n)) -ℤ pos 30000)
  lost : (n : ℕ) → n + n ≤ depth → v ≤ℤ (pos (distance + (n + n)) -ℤ pos 29999) → is_mated_in claims n line ≡ true

-- without a legal move nobody mates, and mated is who is in check
mates_none : (claims : Bool) (n : ℕ) (line : Line) → legal_moves (last line) ≡ [] → mates_in claims n line ≡ false
mates_none claims zero line none = refl
mates_none claims (suc n) line none = rw none (and_false (not (counts_drawn claims line)))

mated_none : (claims : Bool) (n : ℕ) (line : Line) → legal_moves (last line) ≡ [] → is_mated_in claims n line ≡ in_check (man_on (last line)) (last line).side
mated_none claims n line none = rw none refl

-- a drawn line goes no further
mates_drawn : (claims : Bool) (n : ℕ) (line : Line) → counts_drawn claims line ≡ true → mates_in claims n line ≡ false
mates_drawn claims zero line drawn = refl
mates_drawn claims (suc n) line drawn = rw drawn refl

mated_drawn : (claims : Bool) (n : ℕ) (line : Line) (m : MoveParts) (ms : List MoveParts) → legal_moves (last line) ≡ m ∷ ms → counts_drawn claims line ≡ true →
    is_mated_in claims n line ≡ false
mated_drawn claims n line m ms some drawn = rw (some, drawn) refl

-- where play goes on
mates_on : (claims : Bool) (n : ℕ) (line : Line) (m : MoveParts) (ms : List MoveParts) → legal_moves (last line) ≡ m ∷ ms → counts_drawn claims line ≡ false →
    mates_in claims (suc n) line ≡ list_any (λ x. is_mated_in claims n (extended line x)) (m ∷ ms)
mates_on claims n line m ms some playing = rw (some, playing) refl

mated_on : (claims : Bool) (n : ℕ) (line : Line) (m : MoveParts) (ms : List MoveParts) → legal_moves (last line) ≡ m ∷ ms → counts_drawn claims line ≡ false →
    is_mated_in claims n line ≡ list_all (λ x. mates_in claims n (extended line x)) (m ∷ ms)
mated_on claims n line m ms some playing = rw (some, playing) refl

-- a value far from any mate, of a line in which nobody mates in time
counted_far : (claims : Bool) (depth : ℕ) (line : Line) (distance : ℕ) (v : ℤ) → distance + depth ≤ 16 → IsWithin 13605 v →
    ((n : ℕ) → n + n ≤ depth + 1 → mates_in claims n line ≡ false) → ((n : ℕ) → n + n ≤ depth → is_mated_in claims n line ≡ false) →
    Counted claims depth line distance v
counted_far claims depth line distance v near far wins loses = record {
  low = omega (arith, ints, near, far.low);
  high = omega (arith, ints, near, far.high);
  apart = inl far;
  wins = λ n deep h. absurd (false≢true (sym (wins n deep) ∙ h));
  won = λ n deep h. absurd (omega (arith, ints, near, deep, h, far.high));
  loses = λ n deep h. absurd (false≢true (sym (loses n deep) ∙ h));
  lost = λ n deep h. absurd (omega (arith, ints, near, deep, h, far.low));
}

counted_mated : (claims : Bool) (depth : ℕ) (line : Line) (distance : ℕ) (v : ℤ) → distance + depth ≤ 16 → v ≡ (pos distance -ℤ pos 30000) →
    legal_moves (last line) ≡ [] → in_check (man_on (last line)) (last line).side ≡ true → Counted claims depth line distance v
counted_mated claims depth line distance v near is none check = record {
  low = omega (arith, ints, is);
  high = omega (arith, ints, is, near);
  apart = inr (inl (omega (arith, ints, is)));
  wins = λ n deep h. absurd (false≢true (sym (mates_none claims n line none) ∙ h));
  won = λ n deep h. absurd (omega (arith, ints, is, near, deep, h));
  loses = λ n deep h. omega (arith, ints, is);
  lost = λ n deep h. mated_none claims n line none ∙ check;
}

-- one move more
abbrev Then : Bool → ℕ → Line → ℕ → MoveParts → Type 0
Then claims depth line distance m = Counted claims depth (extended line m) (distance + 1) (value claims depth (extended line m) (distance + 1))

apart_before : (depth distance : ℕ) (v w : ℤ) → w ≡ neg_ℤ v →
    IsWithin 13605 v ⊎ ((v ≤ℤ (pos ((distance + 1) + depth) -ℤ pos 30000)) ⊎ ((pos 30000 -ℤ pos ((distance + 1) + depth)) ≤ℤ v)) →
    IsWithin 13605 w ⊎ ((w ≤ℤ (pos (distance + suc depth) -ℤ pos 30000)) ⊎ ((pos 30000 -ℤ pos (distance + suc depth)) ≤ℤ w))
apart_before depth distance v w e (inl far) = inl (record { low = omega (arith, ints, e, far.high); high = omega (arith, ints, e, far.low) })
apart_before depth distance v w e (inr (inl low)) = inr (inr (omega (arith, ints, e, low)))
apart_before depth distance v w e (inr (inr high)) = inr (inl (omega (arith, ints, e, high)))

counted_wins : (claims : Bool) (depth : ℕ) (line : Line) (distance : ℕ) (m : MoveParts) (ms : List MoveParts) → legal_moves (last line) ≡ m ∷ ms →
    counts_drawn claims line ≡ false → All (Then claims depth line distance) (m ∷ ms) → (n : ℕ) → n + n ≤ suc depth + 1 → mates_in claims n line ≡ true →
    (pos 30001 -ℤ pos (distance + (n + n))) ≤ℤ greatest (map (worth claims depth line distance) (m ∷ ms))
counted_wins claims depth line distance m ms some playing each zero deep h = absurd (false≢true h)
counted_wins claims depth line distance m ms some playing each (suc n) deep h =
    greatest_any (λ x. is_mated_in claims n (extended line x)) (worth claims depth line distance) (pos 30001 -ℤ pos (distance + (suc n + suc n))) m ms
    (λ k d lt lost. let c = (each k d lt).loses n (omega (arith, deep)) lost in omega (arith, ints, c))
    (sym (mates_on claims n line m ms some playing) ∙ h)

counted_won : (claims : Bool) (depth : ℕ) (line : Line) (distance : ℕ) (m : MoveParts) (ms : List MoveParts) → legal_moves (last line) ≡ m ∷ ms →
    counts_drawn claims line ≡ false → All (Then claims depth line distance) (m ∷ ms) → (n : ℕ) → n + n ≤ suc depth + 1 →
    greatest (map (worth claims depth line distance) (m ∷ ms)) ≤ℤ (pos 29999 -ℤ pos distance) →
    (pos 30000 -ℤ pos (distance + (n + n))) ≤ℤ greatest (map (worth claims depth line distance) (m ∷ ms)) → mates_in claims n line ≡ true
counted_won claims depth line distance m ms some playing each zero deep high h = absurd (omega (arith, ints, high, h))
counted_won claims depth line distance m ms some playing each (suc n) deep high h =
    mates_on claims n line m ms some playing
    ∙ any_greatest (λ x. is_mated_in claims n (extended line x)) (worth claims depth line distance) (pos 30000 -ℤ pos (distance + (suc n + suc n))) m ms
    (λ k d lt over. (each k d lt).lost n (omega (arith, deep)) (omega (arith, ints, over)))
    h

counted_on : (claims : Bool) (depth : ℕ) (line : Line) (distance : ℕ) (m : MoveParts) (ms : List MoveParts) → distance + suc depth ≤ 16 →
    legal_moves (last line) ≡ m ∷ ms → counts_drawn claims line ≡ false → All (Then claims depth line distance) (m ∷ ms) →
    Counted claims (suc depth) line distance (greatest (map (worth claims depth line distance) (m ∷ ms)))
counted_on claims depth line distance m ms near some playing each =
    let f : MoveParts → ℤ = worth claims depth line distance in
    let low : (pos distance -ℤ pos 30000) ≤ℤ greatest (map f (m ∷ ms)) =
    greatest_keeps (λ v. (pos distance -ℤ pos 30000) ≤ℤ v) f m ms (λ k d lt. let c = each k d lt in omega (arith, ints, c.high)) in
    let high : greatest (map f (m ∷ ms)) ≤ℤ (pos 29999 -ℤ pos distance) =
    greatest_keeps (λ v. v ≤ℤ (pos 29999 -ℤ pos distance)) f m ms (λ k d lt. let c = each k d lt in omega (arith, ints, c.low)) in
    record {
      low = low;
      high = high;
      apart = greatest_keeps
          (λ v. IsWithin 13605 v ⊎ ((v ≤ℤ (pos (distance + suc depth) -ℤ pos 30000)) ⊎ ((pos 30000 -ℤ pos (distance + suc depth)) ≤ℤ v)))
          f m ms (λ k d lt. apart_before depth distance _ _ refl (each k d lt).apart);
      wins = λ n deep h. counted_wins claims depth line distance m ms some playing each n deep h;
      won = λ n deep h. counted_won claims depth line distance m ms some playing each n deep high h;
      loses = λ n deep h.
          greatest_all (λ x. mates_in claims n (extended line x)) f (pos (distance + (n + n)) -ℤ pos 30000) m ms
          (λ k d lt won. let c = (each k d lt).wins n (omega (arith, deep)) won in omega (arith, ints, c))
          (sym (mated_on claims n line m ms some playing) ∙ h);
      lost = λ n deep h.
          mated_on claims n line m ms some playing
          ∙ all_greatest (λ x. mates_in claims n (extended line x)) f (pos (distance + (n + n)) -ℤ pos 29999) m ms
          (λ k d lt under. (each k d lt).won n (omega (arith, deep)) (omega (arith, ints, under)))
          h;
    }

-- the position after a legal move is well formed
setups_after : (line : Line) → IsSetup (last line) → All (λ m. IsSetup (last (extended line m))) (legal_moves (last line))
setups_after line setup k d lt =
    let m = get_or (legal_moves (last line)) k d in
    let on : IsMove m = moves_on_board (last line) k d lt in
    let sound : IsWellFormed (after (last line) m) = legal_well_formed (last line) m setup on.from on.to (moves_legal (last line) k d lt) in
    subst IsSetup (sym (last_extended line m)) sound.setup

evaluated : (p : PositionParts) → IsSetup p → IsWithin 13605 (evaluation_for p)
evaluated p setup =
    let all : IsWithin 13605 (evaluation (man_on p)) = armies_within p.placement (record { few = setup.few; kings = setup.kings }) in
    elim p.side as (λ side. IsWithin 13605 (for_white side (evaluation (man_on p)))) [
      | White ↦ all
      | Black ↦ record { low = omega (arith, ints, all.high); high = omega (arith, ints, all.low) }
    ]

-- nothing is won by a move that is no more looked at
none_won : (claims : Bool) (n : ℕ) (line : Line) → n + n ≤ 0 + 1 → mates_in claims n line ≡ false
none_won claims zero line deep = refl
none_won claims (suc n) line deep = absurd (omega (arith, deep))

none_lost : (claims : Bool) (n : ℕ) (line : Line) (m : MoveParts) (ms : List MoveParts) → legal_moves (last line) ≡ m ∷ ms → counts_drawn claims line ≡ false →
    n + n ≤ 0 → is_mated_in claims n line ≡ false
none_lost claims zero line m ms some playing deep = mated_on claims 0 line m ms some playing
none_lost claims (suc n) line m ms some playing deep = absurd (omega (arith, deep))

-- at the end of the line, whatever the depth
counted_end : (claims : Bool) (depth : ℕ) (line : Line) (distance : ℕ) → distance + depth ≤ 16 → legal_moves (last line) ≡ [] →
    Counted claims depth line distance (value claims depth line distance)
counted_end claims depth line distance near none = by (in_check (man_on (last line)) (last line).side) refl
  where
    by : (t : Bool) → in_check (man_on (last line)) (last line).side ≡ t → Counted claims depth line distance (value claims depth line distance)
    by true check =
        let is : value claims depth line distance ≡ (pos distance -ℤ pos 30000) =
        value-ended claims depth line distance (pos distance -ℤ pos 30000) (unfold ended in rw (none, check) refl) in
        counted_mated claims depth line distance (value claims depth line distance) near is none check
    by false check =
        let is : value claims depth line distance ≡ pos 0 = value-ended claims depth line distance (pos 0) (unfold ended in rw (none, check) refl) in
        counted_far claims depth line distance (value claims depth line distance) near
        (subst (IsWithin 13605) (sym is) (record { low = omega (arith, ints); high = omega (arith, ints) }))
        (λ n deep. mates_none claims n line none) (λ n deep. mated_none claims n line none ∙ check)

counted_draw : (claims : Bool) (depth : ℕ) (line : Line) (distance : ℕ) (m : MoveParts) (ms : List MoveParts) → distance + depth ≤ 16 →
    legal_moves (last line) ≡ m ∷ ms → counts_drawn claims line ≡ true → Counted claims depth line distance (value claims depth line distance)
counted_draw claims depth line distance m ms near some drawn =
    let is : value claims depth line distance ≡ pos 0 = value-ended claims depth line distance (pos 0) (unfold ended in rw (some, drawn) refl) in
    counted_far claims depth line distance (value claims depth line distance) near
    (subst (IsWithin 13605) (sym is) (record { low = omega (arith, ints); high = omega (arith, ints) }))
    (λ n deep. mates_drawn claims n line drawn) (λ n deep. mated_drawn claims n line m ms some drawn)

some_left : (moves ms : List MoveParts) (m : MoveParts) → moves ≡ m ∷ ms → 0 < length moves
some_left moves ms m e = omega (arith, ap length e)

-- what is told of one move more holds of the line
counted_step : (claims : Bool) (depth : ℕ) (line : Line) (distance : ℕ) → distance + suc depth ≤ 16 →
    All (Then claims depth line distance) (legal_moves (last line)) → Counted claims (suc depth) line distance (value claims (suc depth) line distance)
counted_step claims depth line distance near each = by_moves (legal_moves (last line)) refl
  where
    by_draw : (m : MoveParts) (ms : List MoveParts) → legal_moves (last line) ≡ m ∷ ms → (t : Bool) → counts_drawn claims line ≡ t →
        Counted claims (suc depth) line distance (value claims (suc depth) line distance)
    by_draw m ms some true drawn = counted_draw claims (suc depth) line distance m ms near some drawn
    by_draw m ms some false playing =
        let is : value claims (suc depth) line distance ≡ greatest (map (worth claims depth line distance) (legal_moves (last line))) =
        value-suc claims depth line distance (some_left (legal_moves (last line)) ms m some) playing in
        let over : value claims (suc depth) line distance ≡ greatest (map (worth claims depth line distance) (m ∷ ms)) =
        is ∙ ap (λ moves. greatest (map (worth claims depth line distance) moves)) some in
        subst (Counted claims (suc depth) line distance) (sym over)
        (counted_on claims depth line distance m ms near some playing (subst (All (Then claims depth line distance)) some each))

    by_moves : (moves : List MoveParts) → legal_moves (last line) ≡ moves → Counted claims (suc depth) line distance (value claims (suc depth) line distance)
    by_moves [] none = counted_end claims (suc depth) line distance near none
    by_moves (m ∷ ms) some = by_draw m ms some (counts_drawn claims line) refl

counted_leaf : (claims : Bool) (line : Line) (distance : ℕ) → IsSetup (last line) → distance + 0 ≤ 16 →
    Counted claims 0 line distance (value claims 0 line distance)
counted_leaf claims line distance setup near = by_moves (legal_moves (last line)) refl
  where
    by_draw : (m : MoveParts) (ms : List MoveParts) → legal_moves (last line) ≡ m ∷ ms → (t : Bool) → counts_drawn claims line ≡ t →
        Counted claims 0 line distance (value claims 0 line distance)
    by_draw m ms some true drawn = counted_draw claims 0 line distance m ms near some drawn
    by_draw m ms some false playing =
        let is : value claims 0 line distance ≡ evaluation_for (last line) =
        value-leaf claims line distance (some_left (legal_moves (last line)) ms m some) playing in
        counted_far claims 0 line distance (value claims 0 line distance) near (subst (IsWithin 13605) (sym is) (evaluated (last line) setup))
        (λ n deep. none_won claims n line deep) (λ n deep. none_lost claims n line m ms some playing deep)

    by_moves : (moves : List MoveParts) → legal_moves (last line) ≡ moves → Counted claims 0 line distance (value claims 0 line distance)
    by_moves [] none = counted_end claims 0 line distance near none
    by_moves (m ∷ ms) some = by_draw m ms some (counts_drawn claims line) refl

counted : (claims : Bool) (depth : ℕ) (line : Line) (distance : ℕ) → IsSetup (last line) → distance + depth ≤ 16 →
    Counted claims depth line distance (value claims depth line distance)
counted claims zero line distance setup near = counted_leaf claims line distance setup near
counted claims (suc depth) line distance setup near =
    counted_step claims depth line distance near
    (λ k d lt.
    counted claims depth (extended line (get_or (legal_moves (last line)) k d)) (distance + 1) (setups_after line setup k d lt) (omega (arith, near)))

-- ---- the score

half_is : (n : ℕ) → (n + n) / 2 ≡ n
half_is n = omega arith

score_of_mate : (v : ℤ) (n : ℕ) → 1 ≤ n → n + n ≤ 17 → (pos 30001 -ℤ pos (n + n)) ≤ℤ v → v <ℤ (pos 30002 -ℤ pos (n + n)) →
    score_text v ≡ codes "mate " ++ signed_decimal (pos n)
unfolding score_text
score_of_mate v n first few low high =
    let is : v ≡ (pos 30001 -ℤ pos (n + n)) = omega (arith, ints, low, high) in
    let over : int_lt v (pos 29984) ≡ false = grind (arith, ints, is, few) in
    let twice : (pos 30001 -ℤ v) ≡ pos (n + n) = omega (arith, ints, is) in
    let half : int_div (pos 30001 -ℤ v) (pos 2) ≡ pos n = ap (λ x. int_div x (pos 2)) twice ∙ ap pos (half_is n) in
    rw (over, half) refl

far_off : (depth : ℕ) (v : ℤ) → depth ≤ 16 → pos 29984 ≤ℤ v →
    IsWithin 13605 v ⊎ ((v ≤ℤ (pos (0 + depth) -ℤ pos 30000)) ⊎ ((pos 30000 -ℤ pos (0 + depth)) ≤ℤ v)) → (pos 30000 -ℤ pos (0 + depth)) ≤ℤ v
far_off depth v near high (inl far) = absurd (omega (arith, ints, high, far.high))
far_off depth v near high (inr (inl low)) = absurd (omega (arith, ints, near, high, low))
far_off depth v near high (inr (inr over)) = over

pub mate_is_reported : MateIsReported
mate_is_reported claims depth n line setup near first deep mate =
    let c = counted claims depth line 0 setup (omega (arith, near)) in
    let low = c.wins n deep mate.0 in
    let high : value claims depth line 0 <ℤ (pos 30002 -ℤ pos (n + n)) =
    by_lt_z (value claims depth line 0) (pos 30002 -ℤ pos (n + n))
    (λ less. less)
    (λ more. absurd (false≢true (sym mate.1 ∙ c.won (n - 1) (omega (arith, deep, first)) (omega (arith, ints, more, first))))) in
    score_of_mate (value claims depth line 0) n first (omega (arith, deep, near)) (omega (arith, ints, low)) high

-- the last move of the side to move within a depth
last_move : (depth : ℕ) → (n : ℕ) × (n + n ≤ depth + 1) × (depth ≤ n + n)
last_move zero = (0, omega arith, omega arith)
last_move (suc zero) = (1, omega arith, omega arith)
last_move (suc (suc depth)) = let h = last_move depth in (suc h.0, omega (arith, h.1), omega (arith, h.2))

-- of the moves by which mate is forced there is a first
first_mate : (claims : Bool) (line : Line) (most k : ℕ) → k + k ≤ most → mates_in claims k line ≡ true → (n : ℕ) × (1 ≤ n) × (n + n ≤ most) × IsMateIn claims n line
first_mate claims line most zero deep h = absurd (false≢true h)
first_mate claims line most (suc k) deep h = by (first_mate claims line most k (omega (arith, deep))) (mates_in claims k line) refl
  where
    by : (mates_in claims k line ≡ true → (n : ℕ) × (1 ≤ n) × (n + n ≤ most) × IsMateIn claims n line) → (t : Bool) → mates_in claims k line ≡ t →
        (n : ℕ) × (1 ≤ n) × (n + n ≤ most) × IsMateIn claims n line
    by before true e = before e
    by before false e =
        let last : suc k - 1 ≡ k = omega arith in
        (suc k, omega arith, deep, (h, ap (λ n. mates_in claims n line) last ∙ e))

pub mate_is_forced : MateIsForced
mate_is_forced claims depth line setup near mate =
    let c = counted claims depth line 0 setup (omega (arith, near)) in
    let over : (pos 30000 -ℤ pos (0 + depth)) ≤ℤ value claims depth line 0 = far_off depth (value claims depth line 0) near mate c.apart in
    let (k, deep, all) = last_move depth in
    first_mate claims line (depth + 1) k deep (c.won k deep (omega (arith, ints, over, all)))

score_of_mated : (v : ℤ) (n : ℕ) → n + n ≤ 16 → v ≤ℤ (pos (n + n) -ℤ pos 30000) → (pos (n + n) -ℤ pos 30001) <ℤ v →
    score_text v ≡ codes "mate -" ++ signed_decimal (pos n)
unfolding score_text
score_of_mated v n few high low =
    let is : v ≡ (pos (n + n) -ℤ pos 30000) = omega (arith, ints, low, high) in
    let under : int_lt v (pos 29984) ≡ true = grind (arith, ints, is, few) in
    let far : int_lt (neg_ℤ (pos 29984)) v ≡ false = grind (arith, ints, is, few) in
    let twice : (pos 30000 +ℤ v) ≡ pos (n + n) = omega (arith, ints, is) in
    let half : int_div (pos 30000 +ℤ v) (pos 2) ≡ pos n = ap (λ x. int_div x (pos 2)) twice ∙ ap pos (half_is n) in
    rw (under, far, half) refl

pub mated_is_reported : MatedIsReported
mated_is_reported claims depth n line setup near first deep mated =
    let c = counted claims depth line 0 setup (omega (arith, near)) in
    let high = c.loses n deep mated.0 in
    let low : (pos (n + n) -ℤ pos 30001) <ℤ value claims depth line 0 =
    by_lt_z (pos (n + n) -ℤ pos 30001) (value claims depth line 0)
    (λ less. less)
    (λ more. absurd (false≢true (sym (mated.1 first) ∙ c.lost (n - 1) (omega (arith, deep, first)) (omega (arith, ints, more, first))))) in
    score_of_mated (value claims depth line 0) n (omega (arith, deep, near)) (omega (arith, ints, high)) low

-- the last move of the other side within a depth
last_answer : (depth : ℕ) → (n : ℕ) × (n + n ≤ depth) × (depth ≤ n + n + 1)
last_answer zero = (0, omega arith, omega arith)
last_answer (suc zero) = (0, omega arith, omega arith)
last_answer (suc (suc depth)) = let h = last_answer depth in (suc h.0, omega (arith, h.1), omega (arith, h.2))

first_mated : (claims : Bool) (line : Line) (most k : ℕ) → k + k ≤ most → is_mated_in claims k line ≡ true → (n : ℕ) × (n + n ≤ most) × IsMatedIn claims n line
first_mated claims line most zero deep h = (0, deep, (h, λ one. absurd (omega (arith, one))))
first_mated claims line most (suc k) deep h = by (first_mated claims line most k (omega (arith, deep))) (is_mated_in claims k line) refl
  where
    by : (is_mated_in claims k line ≡ true → (n : ℕ) × (n + n ≤ most) × IsMatedIn claims n line) → (t : Bool) → is_mated_in claims k line ≡ t →
        (n : ℕ) × (n + n ≤ most) × IsMatedIn claims n line
    by before true e = before e
    by before false e =
        let last : suc k - 1 ≡ k = omega arith in
        (suc k, deep, (h, λ one. ap (λ n. is_mated_in claims n line) last ∙ e))

far_under : (depth : ℕ) (v : ℤ) → depth ≤ 16 → v ≤ℤ neg_ℤ (pos 29984) →
    IsWithin 13605 v ⊎ ((v ≤ℤ (pos (0 + depth) -ℤ pos 30000)) ⊎ ((pos 30000 -ℤ pos (0 + depth)) ≤ℤ v)) → v ≤ℤ (pos (0 + depth) -ℤ pos 30000)
far_under depth v near low (inl far) = absurd (omega (arith, ints, low, far.low))
far_under depth v near low (inr (inl under)) = under
far_under depth v near low (inr (inr high)) = absurd (omega (arith, ints, near, high, low))

pub mated_is_forced : MatedIsForced
mated_is_forced claims depth line setup near mate =
    let c = counted claims depth line 0 setup (omega (arith, near)) in
    let under : value claims depth line 0 ≤ℤ (pos (0 + depth) -ℤ pos 30000) = far_under depth (value claims depth line 0) near mate c.apart in
    let (k, deep, all) = last_answer depth in
    first_mated claims line depth k deep (c.lost k deep (omega (arith, ints, under, all)))

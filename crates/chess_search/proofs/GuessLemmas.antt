-- The best of some moves, where one of them is searched before the others.
use Rattle.std.proofs.Common.{◌≡◌, if◌then◌else◌, ℕ, ◌+◌, ◌-◌, ◌<◌, List, [], ◌∷◌, ◌++◌, length, take, drop, get_or, Option, Some, None, refl, sym, ap, ◌∙◌, arith, ℤ, pos, ◌-ℤ◌, int_lt, ◌⊎◌, inl, inr}
use Rattle.std.proofs.lemmas.Int.{ints, by_lt_z}
use Rattle.std.proofs.lemmas.List.{append_assoc, append-nil, drop_more, length-drop, length-take-le, take_all, take_more, take-append-drop}
use Rattle.std.proofs.lemmas.List.Sums.{sum_by-append, sum_by-cons}
use Rattle.std.specs.List.{sum_by}
use Rattle.chess_types.specs.board.MoveParts.{MoveParts}
use Rattle.chess_search.specs.Best.{best_by}
use Rattle.chess_search.specs.steps.Windows.{better, better_above, best_above}
use Rattle.chess_search.proofs.RootLemmas.{best_push, int_lt-true, int_lt-false}

-- what is worth more than a number, else none
abbrev above : ℤ → Option (MoveParts × ℤ) → Option (MoveParts × ℤ)
above least None = None
above least (Some kept) = if int_lt least kept.1 then Some kept else None

-- one move after another
abbrev better_all : (MoveParts → ℤ) → Option (MoveParts × ℤ) → List MoveParts → Option (MoveParts × ℤ)
better_all f kept [] = kept
better_all f kept (m ∷ ms) = better_all f (better kept m (f m)) ms

-- of what is worth more, the better is the better of all that is worth more
better_above-above : (least : ℤ) (best : Option (MoveParts × ℤ)) (m : MoveParts) (v : ℤ) → better_above least (above least best) m v ≡ above least (better best m v)
better_above-above least None m v = refl
better_above-above least (Some k) m v =
    by_lt_z least k.1
    (λ over. by_lt_z k.1 v
    (λ more. rw (int_lt-true least k.1 over, int_lt-true k.1 v more, int_lt-true least v (omega (arith, ints))) refl)
    (λ less. rw (int_lt-true least k.1 over, int_lt-false k.1 v less, int_lt-true least k.1 over) refl))
    (λ under. by_lt_z k.1 v
    (λ more. rw (int_lt-false least k.1 under, int_lt-true k.1 v more) refl)
    (λ less. rw (int_lt-false least k.1 under, int_lt-false k.1 v less, int_lt-false least v (omega (arith, ints)), int_lt-false least k.1 under) refl))

best_above-above : (f : MoveParts → ℤ) (least : ℤ) (best : Option (MoveParts × ℤ)) (ms : List MoveParts) →
    best_above f least (above least best) ms ≡ above least (better_all f best ms)
best_above-above f least best [] = refl
best_above-above f least best (m ∷ ms) =
    ap (λ k. best_above f least k ms) (better_above-above least best m (f m)) ∙ best_above-above f least (better best m (f m)) ms

better_all-best : (f : MoveParts → ℤ) (xs ms : List MoveParts) → better_all f (best_by f xs) ms ≡ best_by f (xs ++ ms)
better_all-best f xs [] = ap (best_by f) (sym (append-nil xs))
better_all-best f xs (m ∷ ms) =
    ap (λ k. better_all f k ms) (sym (best_push f xs m)) ∙ better_all-best f (xs ++ m ∷ []) ms ∙ ap (best_by f) (append_assoc xs (m ∷ []) ms)

-- where a move is kept, the number counts no more
kept_on : (f : MoveParts → ℤ) (least : ℤ) (k : MoveParts × ℤ) (ms : List MoveParts) → best_above f least (Some k) ms ≡ better_all f (Some k) ms
kept_on f least k [] = refl
kept_on f least k (m ∷ ms) =
    by_lt_z k.1 (f m)
    (λ more. rw (int_lt-true k.1 (f m) more) (kept_on f least (m, f m) ms))
    (λ less. rw (int_lt-false k.1 (f m) less) (kept_on f least k ms))

best_above-push : (f : MoveParts → ℤ) (least : ℤ) (kept : Option (MoveParts × ℤ)) (ms : List MoveParts) (x : MoveParts) →
    best_above f least kept (ms ++ x ∷ []) ≡ better_above least (best_above f least kept ms) x (f x)
best_above-push f least kept [] x = refl
best_above-push f least kept (m ∷ ms) x = best_above-push f least (better_above least kept m (f m)) ms x

-- one root more
pub best_above_more : (f : MoveParts → ℤ) (least : ℤ) (kept : Option (MoveParts × ℤ)) (ms : List MoveParts) (i : ℕ) (m : MoveParts) → i < length ms → m ≡ get_or ms i m →
    best_above f least kept (take (i + 1) ms) ≡ better_above least (best_above f least kept (take i ms)) m (f m)
best_above_more f least kept ms i m h is =
    rw (take_more ms i m h) (best_above-push f least kept (take i ms) (get_or ms i m) ∙ ap (λ x. better_above least (best_above f least kept (take i ms)) x (f x)) (sym is))

-- the best of some moves, if it is worth more
best_over : (f : MoveParts → ℤ) (least : ℤ) (ms : List MoveParts) → best_above f least None ms ≡ above least (best_by f ms)
best_over f least ms = best_above-above f least None ms ∙ ap (above least) (better_all-best f [] ms)

above_found : (best : Option (MoveParts × ℤ)) (g : MoveParts) (v : ℤ) (k : MoveParts × ℤ) → above (v -ℤ pos 1) best ≡ Some k → better best g v ≡ Some k
above_found None g v k h = cc
above_found (Some b) g v k h =
    by_lt_z (v -ℤ pos 1) b.1
    (λ over. rw (int_lt-false b.1 v (omega (arith, ints))) (rw (int_lt-true (v -ℤ pos 1) b.1 over) at h))
    (λ under. let clash : None ≡ Some k = rw (int_lt-false (v -ℤ pos 1) b.1 under) at h in cc)

above_none : (best : Option (MoveParts × ℤ)) (g : MoveParts) (v : ℤ) → above (v -ℤ pos 1) best ≡ None → better best g v ≡ Some (g, v)
above_none None g v h = refl
above_none (Some b) g v h =
    by_lt_z (v -ℤ pos 1) b.1
    (λ over. let clash : Some b ≡ None = rw (int_lt-true (v -ℤ pos 1) b.1 over) at h in cc)
    (λ under. rw (int_lt-true b.1 v (omega (arith, ints))) refl)

-- what is kept after the guessed one and the roots before it: one of those that is worth as much, else the guessed one
abbrev pub IsKept : Option (MoveParts × ℤ) → MoveParts → ℤ → MoveParts × ℤ → Type 0
IsKept found g v k = (found ≡ Some k) ⊎ ((found ≡ None) × (k ≡ (g, v)))

kept_is : (f : MoveParts → ℤ) (ms : List MoveParts) (g : MoveParts) (least : ℤ) (found : Option (MoveParts × ℤ)) (k : MoveParts × ℤ) →
    least ≡ f g -ℤ pos 1 → found ≡ best_above f least None ms → IsKept found g (f g) k → better (best_by f ms) g (f g) ≡ Some k
kept_is f ms g least found k below is kept =
    let over : found ≡ above (f g -ℤ pos 1) (best_by f ms) = is ∙ best_over f least ms ∙ ap (λ l. above l (best_by f ms)) below in
    elim kept [
      | inl some ↦ above_found (best_by f ms) g (f g) k (sym over ∙ some)
      | inr none ↦ above_none (best_by f ms) g (f g) (sym over ∙ none.0) ∙ ap Some (sym none.1)
    ]

-- the roots before the guessed one, it, and those after it
parts : (ms : List MoveParts) (i : ℕ) (g : MoveParts) → i < length ms → g ≡ get_or ms i g → take i ms ++ g ∷ drop (i + 1) ms ≡ ms
parts ms i g inside is = ap (λ xs. take i ms ++ xs) (ap (λ x. x ∷ drop (i + 1) ms) is ∙ sym (drop_more ms i g inside)) ∙ take-append-drop i ms

-- those after it, as a slice
abbrev pub after_it : List MoveParts → ℕ → List MoveParts
after_it ms i = take (length ms - (i + 1)) (drop (i + 1) ms)

after_it-drop : (ms : List MoveParts) (i : ℕ) → i < length ms → after_it ms i ≡ drop (i + 1) ms
after_it-drop ms i inside = take_all (length ms - (i + 1)) (drop (i + 1) ms) (omega (arith, length-drop (i + 1) ms))

-- the better of what is kept of those before it and it, and of those after it, is the best
pub guessed_best : (f : MoveParts → ℤ) (ms : List MoveParts) (i : ℕ) (g : MoveParts) (least lowest : ℤ) (found : Option (MoveParts × ℤ)) (k : MoveParts × ℤ) →
    i < length ms → g ≡ get_or ms i g → least ≡ f g -ℤ pos 1 → found ≡ best_above f least None (take i ms) → IsKept found g (f g) k →
    best_above f lowest (Some k) (after_it ms i) ≡ best_by f ms
guessed_best f ms i g least lowest found k inside is below first kept =
    let best = kept_is f (take i ms) g least found k below first kept in
    ap (best_above f lowest (Some k)) (after_it-drop ms i inside) ∙ kept_on f lowest k (drop (i + 1) ms) ∙ ap (λ b. better_all f b (drop (i + 1) ms)) (sym best ∙ sym (best_push f (take i ms) g)) ∙
    better_all-best f (take i ms ++ g ∷ []) (drop (i + 1) ms) ∙ ap (best_by f) (append_assoc (take i ms) (g ∷ []) (drop (i + 1) ms) ∙ parts ms i g inside is)

-- a sum over all is one over those before, it and those after
pub guessed_sum : (f : MoveParts → ℕ) (ms : List MoveParts) (i : ℕ) (g : MoveParts) → i < length ms → g ≡ get_or ms i g →
    sum_by f (take i ms) + (f g + sum_by f (after_it ms i)) ≡ sum_by f ms
guessed_sum f ms i g inside is =
    ap (λ xs. sum_by f (take i ms) + (f g + sum_by f xs)) (after_it-drop ms i inside) ∙
    ap (λ n. sum_by f (take i ms) + n) (sym (sum_by-cons f g (drop (i + 1) ms))) ∙ sym (sum_by-append f (take i ms) (g ∷ drop (i + 1) ms)) ∙ ap (sum_by f) (parts ms i g inside is)

-- so their number is the number of all
pub guessed_length : (ms : List MoveParts) (i : ℕ) → i < length ms → length (take i ms) + (1 + length (after_it ms i)) ≡ length ms
guessed_length ms i inside =
    let after : length (after_it ms i) ≡ length (drop (i + 1) ms) = ap (λ (xs : List MoveParts). length xs) (after_it-drop ms i inside) in
    omega (arith, length-take-le i ms (omega arith), after, length-drop (i + 1) ms)

-- A room that is filled from its first place on, value by value.
use Rattle.std.proofs.Common.{◌≡◌, ℕ, ◌+◌, ◌<◌, ◌≤◌, List, [], ◌∷◌, ◌++◌, take, drop, length, map, refl, sym, ap, ◌∙◌, arith, subst}
use Rattle.std.specs.Prelude.{get_or, set}
use Rattle.std.proofs.lemmas.List.{take_more_set, drop-set-lt, drop-drop, ext_get_or, length-set, take-append-drop, take_all}
use Rattle.std.proofs.lemmas.List.FromFn.{get_or-map-range_with_len, length-map-range_with_len}
use Rattle.std.proofs.lemmas.Grind.{take_at_read}
use Rattle.chess_types.specs.board.Squares.{squares}

pub record PutSoFar {X : Type 0} (values old room : List X) (i : ℕ) : Type 0 where
  pub filled : take i room ≡ take i values
  pub rest : drop i room ≡ drop i old
  pub size : length room ≡ length old

pub put_start : {X : Type 0} → (values old : List X) → PutSoFar values old old 0
put_start values old = record { filled = refl; rest = refl; size = refl }

pub put_on : {X : Type 0} → (values old room : List X) → (i : ℕ) → (y : X) → i < length values → length values ≤ length old → y ≡ get_or values i y
    → PutSoFar values old room i → PutSoFar values old (set room i y) (i + 1)
put_on values old room i y lt le e so_far =
    let inside : i < length room = omega (arith, so_far.size) in
    record {
      filled = take_more_set room i y inside ∙ ap (λ xs. xs ++ y ∷ []) so_far.filled ∙ ap (λ v. take i values ++ v ∷ []) e ∙ sym (take_at_read values i y lt).1;
      rest = drop-set-lt (i + 1) room i y (omega arith) ∙ sym (drop-drop 1 i room) ∙ ap (drop 1) so_far.rest ∙ drop-drop 1 i old;
      size = length-set room i y ∙ so_far.size;
    }

pub put_end : {X : Type 0} → (values old room : List X) → PutSoFar values old room (length values) → room ≡ values ++ drop (length values) old
put_end values old room so_far =
    sym (take-append-drop (length values) room) ∙ ap (λ xs. xs ++ drop (length values) room) (so_far.filled ∙ take_all (length values) values (omega arith)) ∙ ap (λ xs. values ++ xs) so_far.rest

-- a room of just as many places
pub put_full : {X : Type 0} → (values old room : List X) → length old ≡ length values → PutSoFar values old room (length values) → room ≡ values
put_full values old room e so_far =
    sym (take_all (length values) room (omega (arith, so_far.size, e))) ∙ so_far.filled ∙ take_all (length values) values (omega arith)

-- a room of 64 places, by square
many : {X : Type 0} → (f : ℕ → X) → length (map f squares) ≡ 64
unfolding squares
many f = length-map-range_with_len f 0 64

at_square : {X : Type 0} → (f : ℕ → X) → (i : ℕ) → (y : X) → i < 64 → get_or (map f squares) i y ≡ f i
unfolding squares
at_square f i y lt = get_or-map-range_with_len f 0 64 i i y lt (omega arith)

pub put_square : {X : Type 0} → (f : ℕ → X) → (old room : List X) → (i : ℕ) → (y : X) → i < 64 → length old ≡ 64 → y ≡ f i
    → PutSoFar (map f squares) old room i → PutSoFar (map f squares) old (set room i y) (i + 1)
put_square f old room i y lt e is so_far =
    let n : length (map f squares) ≡ 64 = many f in
    put_on (map f squares) old room i y (omega (arith, n)) (omega (arith, n, e)) (is ∙ sym (at_square f i y lt)) so_far

pub put_squares : {X : Type 0} → (f : ℕ → X) → (old room : List X) → (i : ℕ) → 64 ≤ i → i ≤ 64 → length old ≡ 64 → PutSoFar (map f squares) old room i → room ≡ map f squares
put_squares f old room i le ge e so_far =
    let n : length (map f squares) ≡ 64 = many f in
    let at : i ≡ length (map f squares) = omega (arith, n) in
    put_full (map f squares) old room (omega (arith, n, e)) (subst (PutSoFar (map f squares) old room) at so_far)

pub same_map : {X : Type 0} → X → (f g : ℕ → X) → ((s : ℕ) → s < 64 → f s ≡ g s) → map f squares ≡ map g squares
same_map x f g same =
    ext_get_or x (map f squares) (map g squares) (many f ∙ sym (many g))
    (λ i lt. let on_board : i < 64 = omega (arith, lt, many f) in at_square f i x on_board ∙ same i on_board ∙ sym (at_square g i x on_board))

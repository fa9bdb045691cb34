-- Facts on the greatest of a list, and on answers in a window.
use Rattle.std.proofs.Common.{◌≡◌, ℕ, zero, suc, ◌+◌, ◌-◌, ◌<◌, Bool, true, false, List, [], ◌∷◌, length, map, take, get_or, refl, sym, ap, ◌∙◌, subst, arith, ℤ, pos, neg_ℤ, ◌<ℤ◌, ◌≤ℤ◌, fold, Some, None, ◌-ℤ◌, nat_lt, ◌⊎◌, inl, inr}
use Rattle.std.proofs.lemmas.Int.{ints, clamps, by_lt_z, fold-int_max_bounds}
use Rattle.std.proofs.lemmas.List.{take_more, map-append, length-map}
use Rattle.std.proofs.Math.ListN.{get_or-map}
use Rattle.std.proofs.lemmas.List.Elements.{All-get_or, All-head, All-tail, All-map, recursion_from_All}
use Rattle.std.proofs.lemmas.List.Sorted.{All-permutation, length_permutation, IsPermutation-sym}
use Rattle.std.proofs.lemmas.List.Sums.{fold_push}
use Rattle.std.specs.Int.{int_max}
use Rattle.std.specs.List.{All, AllByRecursion}
use Rattle.std.specs.List.Sorted.{IsPermutation}
use Rattle.chess_types.specs.board.MoveParts.{MoveParts}
use Rattle.chess_types.specs.board.Attack.{in_check}
use Rattle.chess_types.specs.board.Position.{PositionParts, man_on}
use Rattle.chess_types.specs.board.Lines.{Line, last}
use Rattle.chess_types.specs.board.Legal.{is_legal, legal_moves}
use Rattle.chess_types.specs.board.Outcome.{is_without}
use Rattle.chess_moves.proofs.LegalLaws.{moves_legal}
use Rattle.chess_search.specs.Value.{evaluation_for, counts_drawn, ended, greatest, value, worth}
use Rattle.chess_search.specs.steps.Windows.{FitsWindow, IsDecided}

pub int_max_assoc : (a b c : ℤ) → int_max (int_max a b) c ≡ int_max a (int_max b c)
int_max_assoc a b c = omega (arith, ints, clamps)

pub fold-int_max_from : (a v : ℤ) (vs : List ℤ) → fold int_max (int_max a v) vs ≡ int_max a (fold int_max v vs)
fold-int_max_from a v [] = refl
fold-int_max_from a v (x ∷ xs) = ap (λ z. fold int_max z xs) (int_max_assoc a v x) ∙ fold-int_max_from a (int_max v x) xs

-- from a floor, the greatest is that of the list, or the floor
pub fold-int_max_floor : (a : ℤ) (vs : List ℤ) → 0 < length vs → fold int_max a vs ≡ int_max a (greatest vs)
fold-int_max_floor a [] h = absurd (omega arith)
fold-int_max_floor a (v ∷ vs) h = fold-int_max_from a v vs

-- a list with an element has one
some_move : (moves : List MoveParts) → 0 < length moves → is_without moves ≡ false
some_move [] some = absurd (omega arith)
some_move (m ∷ moves) some = refl

-- the number of moves shows whether there are any
no_moves : (moves : List MoveParts) → nat_lt 0 (length moves) ≡ false → moves ≡ []
no_moves [] none = refl
no_moves (m ∷ moves) none = absurd (grind (arith, none))

pub none_left : (old new : Line) (has : Bool) → new ≡ old → has ≡ nat_lt 0 (length (legal_moves (last old))) → has ≡ false → legal_moves (last new) ≡ []
none_left old new has line value none = ap (λ (l : Line). legal_moves (last l)) line ∙ no_moves (legal_moves (last old)) (sym value ∙ none)

pub moves_left : (moves : List MoveParts) → nat_lt 0 (length moves) ≡ true → 0 < length moves
moves_left moves some = grind (arith, some)

-- where play goes on
pub going : (claims : Bool) (line : Line) (distance : ℕ) → 0 < length (legal_moves (last line)) → counts_drawn claims line ≡ false → ended claims line distance ≡ None
going claims line distance some playing = unfold ended in rw (some_move (legal_moves (last line)) some, playing) refl

pub value-leaf : (claims : Bool) (line : Line) (distance : ℕ) → 0 < length (legal_moves (last line)) → counts_drawn claims line ≡ false → value claims 0 line distance ≡ evaluation_for (last line)
value-leaf claims line distance some playing = rw (going claims line distance some playing) refl

pub value-suc : (claims : Bool) (depth : ℕ) (line : Line) (distance : ℕ) → 0 < length (legal_moves (last line)) → counts_drawn claims line ≡ false → value claims (suc depth) line distance ≡ greatest (map (worth claims depth line distance) (legal_moves (last line)))
value-suc claims depth line distance some playing = rw (going claims line distance some playing) refl

pub value-play : (claims : Bool) (depth : ℕ) (line : Line) (distance : ℕ) → 0 < length (legal_moves (last line)) → counts_drawn claims line ≡ false → 0 < depth → value claims depth line distance ≡ greatest (map (worth claims (depth - 1) line distance) (legal_moves (last line)))
value-play claims depth line distance some playing deep =
    let deeper : depth ≡ suc (depth - 1) = omega arith in
    ap (λ n. value claims n line distance) deeper ∙ value-suc claims (depth - 1) line distance some playing

-- at whatever depth, a line that goes no further has the value of its end
pub value-ended : (claims : Bool) (depth : ℕ) (line : Line) (distance : ℕ) (v : ℤ) → ended claims line distance ≡ Some v → value claims depth line distance ≡ v
value-ended claims zero line distance v e = rw e refl
value-ended claims (suc depth) line distance v e = rw e refl

-- the answer once each move was searched
pub answered_all : (alpha beta best : ℤ) (vs : List ℤ) → 0 < length vs → neg_ℤ (pos 30000) ≤ℤ best → fold int_max (neg_ℤ (pos 30001)) vs ≤ℤ best → (alpha <ℤ best → best ≤ℤ fold int_max (neg_ℤ (pos 30001)) vs) → FitsWindow alpha beta (greatest vs) best
answered_all alpha beta best vs some low upper lower =
    let e = fold-int_max_floor (neg_ℤ (pos 30001)) vs some in
    record {
      upper = λ h. omega (arith, ints, clamps, e);
      lower = λ h. omega (arith, ints, clamps, e, lower h);
    }

-- the value itself is an answer in each window
pub FitsWindow-refl : (alpha beta v : ℤ) → FitsWindow alpha beta v v
FitsWindow-refl alpha beta v = record { upper = λ h. omega (arith, ints); lower = λ h. omega (arith, ints) }

-- the same answer, by other names of the numbers
pub same_window : (alpha beta v answer a b w x : ℤ) → a ≡ alpha → b ≡ beta → w ≡ v → x ≡ answer → FitsWindow a b w x → FitsWindow alpha beta v answer
same_window alpha beta v answer a b w x e f h i fits = record {
  upper = λ under. omega (arith, ints, e, f, h, i, fits.upper (omega (arith, ints, e, f, h, i)));
  lower = λ over. omega (arith, ints, e, f, h, i, fits.lower (omega (arith, ints, e, f, h, i)));
}

-- an answer for a draw and for an evaluation alike is one for a value that is either
pub decided : (alpha beta evaluation answer a b e x : ℤ) → a ≡ alpha → b ≡ beta → e ≡ evaluation → x ≡ answer → IsDecided a b e x →
    (v : ℤ) → (v ≡ pos 0) ⊎ (v ≡ evaluation) → FitsWindow alpha beta v answer
decided alpha beta evaluation answer a b e x f h i j both v (inl drawn) = same_window alpha beta v answer a b (pos 0) x f h (sym drawn) j both.draw
decided alpha beta evaluation answer a b e x f h i j both v (inr evaluated) = same_window alpha beta v answer a b e x f h (i ∙ sym evaluated) j both.evaluated

-- one more move, worth v, was answered by score, and nothing is cut off
pub upper_more : (beta best score next so_far v : ℤ) → so_far ≤ℤ best → (score <ℤ beta → v ≤ℤ score) → next ≡ int_max best score → next <ℤ beta → int_max so_far v ≤ℤ next
upper_more beta best score next so_far v upper child e below = omega (arith, ints, clamps)

pub lower_more : (alpha best score next so_far v : ℤ) → (alpha <ℤ best → best ≤ℤ so_far) → (int_max best alpha <ℤ score → score ≤ℤ v) → next ≡ int_max best score → alpha <ℤ next → next ≤ℤ int_max so_far v
lower_more alpha best score next so_far v lower child e above =
    by_lt_z best score
    (λ taken. let over : int_max best alpha <ℤ score = omega (arith, ints, clamps) in omega (arith, ints, clamps, child over))
    (λ kept. let over : alpha <ℤ best = omega (arith, ints, clamps) in omega (arith, ints, clamps, lower over))

-- a move, worth v, whose answer is no less than beta
pub cut_off : (alpha beta best score next v V : ℤ) → best <ℤ beta → (int_max best alpha <ℤ score → score ≤ℤ v) → next ≡ int_max best score → beta ≤ℤ next → v ≤ℤ V → alpha <ℤ beta → FitsWindow alpha beta V next
cut_off alpha beta best score next v V below child e above within window = record {
  upper = λ h. omega (arith, ints);
  lower = λ h. let over : int_max best alpha <ℤ score = omega (arith, ints, clamps) in omega (arith, ints, clamps, child over);
}

-- one more score
pub best_more : {M : Type 0} (f : M → ℤ) (a : ℤ) (ms : List M) (i : ℕ) (m : M) → i < length ms → m ≡ get_or ms i m →
    fold int_max a (map f (take (i + 1) ms)) ≡ int_max (fold int_max a (map f (take i ms))) (f m)
best_more f a ms i m h is =
    rw (take_more ms i m h, map-append f (take i ms) (get_or ms i m ∷ []), fold_push) (ap (λ x. int_max (fold int_max a (map f (take i ms))) (f x)) (sym is))

-- no element is above the greatest
pub le_greatest : {M : Type 0} (f : M → ℤ) (ms : List M) (i : ℕ) (d : M) → i < length ms → f (get_or ms i d) ≤ℤ greatest (map f ms)
le_greatest f [] i d h = absurd (omega arith)
le_greatest f (m ∷ ms) zero d h = (fold-int_max_bounds (f m) (map f ms) _ refl).0
le_greatest f (m ∷ ms) (suc i) d h =
    let in_range : i < length ms = omega arith in
    let r = greatest (map f (m ∷ ms)) in
    let at_i = All-get_or (λ x. x ≤ℤ r) (map f ms) i (f d) (simp length-map in_range) (fold-int_max_bounds (f m) (map f ms) r refl).1 in
    subst (λ x. x ≤ℤ r) (get_or-map f ms i d) at_i

pub within_greatest : {M : Type 0} (f : M → ℤ) (ms : List M) (i : ℕ) (m : M) → i < length ms → m ≡ get_or ms i m → f m ≤ℤ greatest (map f ms)
within_greatest f ms i m h is = subst (λ x. f x ≤ℤ greatest (map f ms)) (sym is) (le_greatest f ms i m h)

-- each element is at most r
fold_le : (a r : ℤ) (vs : List ℤ) → a ≤ℤ r → AllByRecursion (λ v. v ≤ℤ r) vs → fold int_max a vs ≤ℤ r
fold_le a r [] h hs = h
fold_le a r (v ∷ vs) h hs = fold_le (int_max a v) r vs (omega (arith, ints, clamps, hs.0)) hs.1

greatest_le : {M : Type 0} (f : M → ℤ) (r : ℤ) (ms : List M) → 0 < length ms → All (λ m. f m ≤ℤ r) ms → greatest (map f ms) ≤ℤ r
greatest_le f r [] some h = absurd (omega arith)
greatest_le f r (m ∷ ms) some h = fold_le (f m) r (map f ms) (All-head (λ m. f m ≤ℤ r) m ms h) (recursion_from_All (λ v. v ≤ℤ r) (map f ms) (All-map (λ v. v ≤ℤ r) f ms (All-tail (λ m. f m ≤ℤ r) m ms h)))

greatest_le_permuted : {M : Type 0} (f : M → ℤ) (xs ys : List M) → 0 < length ys → IsPermutation ys xs → greatest (map f xs) ≤ℤ greatest (map f ys)
greatest_le_permuted f xs ys some p =
    let r = greatest (map f ys) in
    greatest_le f r xs (omega (arith, length_permutation ys xs p))
    (All-permutation (λ m. f m ≤ℤ r) ys xs p (λ k d h. le_greatest f ys k d h))

-- the greatest doesn't depend on the order
pub greatest-permutation : {M : Type 0} (f : M → ℤ) (xs ys : List M) → 0 < length xs → IsPermutation xs ys → greatest (map f xs) ≡ greatest (map f ys)
greatest-permutation f xs ys some p =
    let also : 0 < length ys = omega (arith, length_permutation xs ys p) in
    omega (arith, ints, greatest_le_permuted f xs ys also (IsPermutation-sym xs ys p), greatest_le_permuted f ys xs some p)

-- where play goes on, with the moves in any order
pub value-any_order : (claims : Bool) (depth : ℕ) (line : Line) (distance : ℕ) (order : List MoveParts) → 0 < length order → counts_drawn claims line ≡ false → 0 < depth → IsPermutation (legal_moves (last line)) order → value claims depth line distance ≡ greatest (map (worth claims (depth - 1) line distance) order)
value-any_order claims depth line distance order some playing deep p =
    let also : 0 < length (legal_moves (last line)) = omega (arith, length_permutation (legal_moves (last line)) order p) in
    value-play claims depth line distance also playing deep ∙ greatest-permutation (worth claims (depth - 1) line distance) (legal_moves (last line)) order also p

-- an answer seen from the other side
pub FitsWindow-negated : (alpha beta low high v a b : ℤ) → low ≡ neg_ℤ beta → high ≡ neg_ℤ alpha → b ≡ neg_ℤ a → FitsWindow low high v a → FitsWindow alpha beta (neg_ℤ v) b
FitsWindow-negated alpha beta low high v a b e f h w = record {
  upper = λ below. omega (arith, ints, w.lower (omega (arith, ints)));
  lower = λ above. omega (arith, ints, w.upper (omega (arith, ints)));
}

-- mated, or stalemate
pub ended-check : (claims : Bool) (line : Line) (distance : ℕ) → legal_moves (last line) ≡ [] → in_check (man_on (last line)) (last line).side ≡ true →
    ended claims line distance ≡ Some (pos distance -ℤ pos 30000)
unfolding ended
ended-check claims line distance none check = rw (none, check) refl

pub ended-stalemate : (claims : Bool) (line : Line) (distance : ℕ) → legal_moves (last line) ≡ [] → in_check (man_on (last line)) (last line).side ≡ false →
    ended claims line distance ≡ Some (pos 0)
unfolding ended
ended-stalemate claims line distance none check = rw (none, check) refl

-- drawn, though there are moves
pub ended-drawn : (claims : Bool) (line : Line) (distance : ℕ) → 0 < length (legal_moves (last line)) → counts_drawn claims line ≡ true →
    ended claims line distance ≡ Some (pos 0)
unfolding ended
ended-drawn claims line distance some drawn = rw (some_move (legal_moves (last line)) some, drawn) refl

-- a line whose side to move isn't in check, looked at no deeper, is worth nothing or its evaluation
unchecked : (claims : Bool) (line : Line) (distance : ℕ) (moves : List MoveParts) (drawn : Bool) → legal_moves (last line) ≡ moves → counts_drawn claims line ≡ drawn →
    in_check (man_on (last line)) (last line).side ≡ false → (value claims 0 line distance ≡ pos 0) ⊎ (value claims 0 line distance ≡ evaluation_for (last line))
unfolding ended
unchecked claims line distance [] drawn listed is quiet = inl (rw (listed, quiet) refl)
unchecked claims line distance (m ∷ ms) true listed is quiet = inl (rw (listed, is) refl)
unchecked claims line distance (m ∷ ms) false listed is quiet = inr (rw (listed, is) refl)

pub value-unchecked : (claims : Bool) (line : Line) (distance : ℕ) → in_check (man_on (last line)) (last line).side ≡ false →
    (value claims 0 line distance ≡ pos 0) ⊎ (value claims 0 line distance ≡ evaluation_for (last line))
value-unchecked claims line distance quiet = unchecked claims line distance (legal_moves (last line)) (counts_drawn claims line) refl refl quiet

-- what was answered of the line as it was
pub drawn_at : (claims answer is : Bool) (old new : Line) → new ≡ old → answer ≡ counts_drawn claims new → answer ≡ is → counts_drawn claims old ≡ is
drawn_at claims answer is old new line value told = ap (counts_drawn claims) (sym line) ∙ sym value ∙ told

-- the evaluation of the line as it was
pub evaluated_at : (p : PositionParts) (later new old : Line) → p ≡ last later → later ≡ new → new ≡ old → evaluation_for p ≡ evaluation_for (last old)
evaluated_at p later new old position drawn line = ap evaluation_for (position ∙ ap last (drawn ∙ line))

-- each move of the list, in whatever order, is legal in the line as it was
pub legal_at : (old now : Line) (moves order : List MoveParts) (i : ℕ) (m : MoveParts) → moves ≡ legal_moves (last old) →
    IsPermutation moves order → i < length order → m ≡ get_or order i m → now ≡ old → is_legal (last now) m ≡ true
legal_at old now moves order i m listed permuted inside is line =
    let all : All (λ x. is_legal (last old) x ≡ true) moves = subst (All (λ x. is_legal (last old) x ≡ true)) (sym listed) (moves_legal (last old)) in
    let there = All-get_or (λ x. is_legal (last old) x ≡ true) order i m inside (All-permutation (λ x. is_legal (last old) x ≡ true) moves order permuted all) in
    ap (λ (l : Line). is_legal (last l) m) line ∙ ap (is_legal (last old)) is ∙ there

-- The best of some moves and one more.
use Rattle.std.proofs.Common.{◌≡◌, ℕ, zero, suc, ◌+◌, ◌<◌, Bool, true, false, List, [], ◌∷◌, ◌++◌, length, map, take, get_or, Option, Some, None, refl, sym, ap, ◌∙◌, subst, arith, ℤ, ◌<ℤ◌, ◌≤ℤ◌, filter, find, int_lt, Contains, ⊎_elim}
use Rattle.std.proofs.lemmas.Int.{ints, clamps, by_lt_z, fold-int_max_reached}
use Rattle.std.proofs.lemmas.List.{map-append, length-map, get_or-map, take_more}
use Rattle.std.proofs.lemmas.List.Folds.{find-append}
use Rattle.std.proofs.lemmas.List.Sums.{fold_push}
use Rattle.std.specs.Int.{int_max}
use Rattle.std.proofs.lemmas.Cmp.{int_eq_equiv}
use Rattle.std.proofs.lemmas.Bool.Decides.{Decides-int_eq}
use Rattle.std.specs.Ordering.{int_eq}
use Rattle.std.specs.Option.{option_map}
use Rattle.chess_types.specs.board.MoveParts.{MoveParts}
use Rattle.chess_types.specs.board.Legal.{is_legal, legal_moves}
use Rattle.chess_types.specs.board.Lines.{Line, last}
use Rattle.std.proofs.lemmas.List.Elements.{All-filter, All-get_or}
use Rattle.std.specs.List.{All}
use Rattle.chess_moves.proofs.LegalLaws.{moves_legal}
use Rattle.chess_search.specs.Value.{greatest}
use Rattle.chess_search.specs.Best.{best_by}
use Rattle.chess_search.specs.steps.Windows.{better}
use Rattle.chess_search.proofs.WindowLemmas.{le_greatest}

-- the greatest with one more
greatest_push : (f : MoveParts → ℤ) (m : MoveParts) (ms : List MoveParts) (x : MoveParts) → greatest (map f ((m ∷ ms) ++ x ∷ [])) ≡ int_max (greatest (map f (m ∷ ms))) (f x)
greatest_push f m ms x = rw (map-append f ms (x ∷ []), fold_push) refl

-- none where each fails
find_none : (p : MoveParts → Bool) (ms : List MoveParts) → ((k : ℕ) (d : MoveParts) → k < length ms → p (get_or ms k d) ≡ false) → find p ms ≡ None
find_none p [] h = refl
find_none p (m ∷ ms) h = rw (h 0 m (omega arith)) (find_none p ms (λ k d l. h (suc k) d (omega arith)))

-- some element is found where one passes
find_some : (p : MoveParts → Bool) (ms : List MoveParts) (k : ℕ) (d : MoveParts) → k < length ms → p (get_or ms k d) ≡ true → (b : MoveParts) × (find p ms ≡ Some b)
find_some p [] k d l h = absurd (omega arith)
find_some p (m ∷ ms) zero d l h = (m, rw h refl)
find_some p (m ∷ ms) (suc k) d l h =
    let rest = find_some p ms k d (omega arith) h in
    cases (p m) refl rest
  where
    cases : (t : Bool) → p m ≡ t → ((b : MoveParts) × (find p ms ≡ Some b)) → (b : MoveParts) × (find p (m ∷ ms) ≡ Some b)
    cases true e rest = (m, rw e refl)
    cases false e rest = (rest.0, rw e rest.1)

int_eq-refl : (a : ℤ) → int_eq a a ≡ true
int_eq-refl a = int_eq_equiv.refl a

same_int_eq : (a b : ℤ) → a ≡ b → int_eq a b ≡ true
same_int_eq a b h = (Decides-int_eq a b).1 h

int_eq-below : (a b : ℤ) → a <ℤ b → int_eq a b ≡ false
int_eq-below a b h = grind (arith, ints, Decides-int_eq a b)

pub int_lt-true : (a b : ℤ) → a <ℤ b → int_lt a b ≡ true
int_lt-true a b h = grind (arith, ints)

pub int_lt-false : (a b : ℤ) → b ≤ℤ a → int_lt a b ≡ false
int_lt-false a b h = grind (arith, ints)

-- some move has the greatest worth
pub find_greatest : (f : MoveParts → ℤ) (m : MoveParts) (ms : List MoveParts) → (b : MoveParts) × (find (λ n. int_eq (f n) (greatest (map f (m ∷ ms)))) (m ∷ ms) ≡ Some b)
find_greatest f m ms =
    let r = greatest (map f (m ∷ ms)) in
    ⊎_elim
    (λ (e : r ≡ f m). find_some (λ n. int_eq (f n) r) (m ∷ ms) 0 m (omega arith) (same_int_eq (f m) r (sym e)))
    (λ (e : Contains (map f ms) r). find_some (λ n. int_eq (f n) r) (m ∷ ms) (suc e.0) m (omega (arith, e.1, simp length-map at e.1))
    (same_int_eq _ r (sym (get_or-map f ms e.0 m r (omega (arith, e.1, simp length-map at e.1))) ∙ e.2)))
    (fold-int_max_reached (f m) (map f ms) r refl)

-- the first of the moves that is worth v, with v
abbrev best_at : (MoveParts → ℤ) → ℤ → List MoveParts → Option (MoveParts × ℤ)
best_at f v ms = option_map (λ m. (m, v)) (find (λ m. int_eq (f m) v) ms)

-- above all before it, a move is the first of its worth
best_at-above : (f : MoveParts → ℤ) (ms : List MoveParts) (x : MoveParts) → ((k : ℕ) (d : MoveParts) → k < length ms → f (get_or ms k d) <ℤ f x) → best_at f (f x) (ms ++ x ∷ []) ≡ Some (x, f x)
best_at-above f ms x h =
    rw (find-append (λ m. int_eq (f m) (f x)) ms (x ∷ []), find_none (λ m. int_eq (f m) (f x)) ms (λ k d l. int_eq-below _ _ (h k d l)), int_eq-refl (f x)) refl

-- what is found stays found
best_at-kept : (f : MoveParts → ℤ) (v : ℤ) (ms : List MoveParts) (x b : MoveParts) → find (λ m. int_eq (f m) v) ms ≡ Some b → best_at f v (ms ++ x ∷ []) ≡ Some (b, v)
best_at-kept f v ms x b h = rw (find-append (λ m. int_eq (f m) v) ms (x ∷ []), h) refl

pub best_push : (f : MoveParts → ℤ) (ms : List MoveParts) (x : MoveParts) → best_by f (ms ++ x ∷ []) ≡ better (best_by f ms) x (f x)
best_push f [] x = rw (int_eq-refl (f x)) refl
best_push f (m ∷ ms) x =
    let g = greatest (map f (m ∷ ms)) in
    let found = find_greatest f m ms in
    let e = greatest_push f m ms x in
    by_lt_z g (f x)
    (λ above.
    let new : greatest (map f ((m ∷ ms) ++ x ∷ [])) ≡ f x = e ∙ omega (arith, ints, clamps) in
    let first = best_at-above f (m ∷ ms) x (λ k d l. omega (arith, ints, le_greatest f (m ∷ ms) k d l)) in
    let kept : best_by f (m ∷ ms) ≡ Some (found.0, g) = rw found.1 refl in
    ap (λ v. best_at f v ((m ∷ ms) ++ x ∷ [])) new ∙ first ∙ sym (rw (kept, int_lt-true g (f x) above) refl))
    (λ below.
    let new : greatest (map f ((m ∷ ms) ++ x ∷ [])) ≡ g = e ∙ omega (arith, ints, clamps) in
    let kept : best_by f (m ∷ ms) ≡ Some (found.0, g) = rw found.1 refl in
    ap (λ v. best_at f v ((m ∷ ms) ++ x ∷ [])) new ∙ best_at-kept f g (m ∷ ms) x found.0 found.1 ∙ sym (rw (kept, int_lt-false g (f x) below) refl))

-- the best of the first i moves and the next one
pub best_more_root : (f : MoveParts → ℤ) (ms : List MoveParts) (i : ℕ) (m : MoveParts) → i < length ms → m ≡ get_or ms i m →
    best_by f (take (i + 1) ms) ≡ better (best_by f (take i ms)) m (f m)
best_more_root f ms i m h is =
    rw (take_more ms i m h) (best_push f (take i ms) (get_or ms i m) ∙ ap (λ x. better (best_by f (take i ms)) x (f x)) (sym is))

-- of some moves there is a best
pub best_some : (f : MoveParts → ℤ) (ms : List MoveParts) → 0 < length ms → (b : MoveParts × ℤ) × (best_by f ms ≡ Some b)
best_some f [] h = absurd (omega arith)
best_some f (m ∷ ms) h = let found = find_greatest f m ms in ((found.0, greatest (map f (m ∷ ms))), rw found.1 refl)

-- each root is legal
pub root_legal : (line now : Line) (roots : List MoveParts) (i : ℕ) (m : MoveParts) → All (λ x. is_legal (last line) x ≡ true) roots → i < length roots →
    m ≡ get_or roots i m → now ≡ line → is_legal (last now) m ≡ true
root_legal line now roots i m legal inside is same =
    ap (λ (l : Line). is_legal (last l) m) same ∙ ap (is_legal (last line)) is ∙ All-get_or (λ x. is_legal (last line) x ≡ true) roots i m inside legal

-- the legal moves, as a list of roots
pub roots_legal : (listed line : Line) (roots : List MoveParts) → roots ≡ legal_moves (last listed) → line ≡ listed → All (λ m. is_legal (last line) m ≡ true) roots
roots_legal listed line roots all same =
    subst (All (λ m. is_legal (last line) m ≡ true)) (sym (all ∙ ap (λ (l : Line). legal_moves (last l)) (sym same))) (moves_legal (last line))

-- those of them that pass a test
pub part_legal : (p : MoveParts → Bool) (listed line : Line) (moves roots : List MoveParts) → roots ≡ filter p moves → moves ≡ legal_moves (last listed) → line ≡ listed → All (λ m. is_legal (last line) m ≡ true) roots
part_legal p listed line moves roots part all same =
    subst (All (λ m. is_legal (last line) m ≡ true)) (sym part) (All-filter p (λ m. is_legal (last line) m ≡ true) moves (roots_legal listed line moves all same))

-- each of the legal moves is legal
pub listed_legal : (listed now : Line) (moves : List MoveParts) (i : ℕ) (m : MoveParts) → moves ≡ legal_moves (last listed) → now ≡ listed → i < length moves → m ≡ get_or moves i m →
    is_legal (last now) m ≡ true
listed_legal listed now moves i m all same inside is = root_legal now now moves i m (roots_legal listed now moves all same) inside is refl

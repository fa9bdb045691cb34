-- The replies that hold a value: how they are found, and that they are the line of a score.
use Rattle.std.proofs.Common.{◌≡◌, ℕ, zero, suc, ◌+◌, ◌-◌, ◌<◌, Bool, true, false, List, [], ◌∷◌, ◌++◌, length, map, take, get_or, Some, None, is_some, refl, sym, ap, ◌∙◌, subst, arith, ℤ, pos, neg_ℤ, ◌-ℤ◌, ◌<ℤ◌, ◌≤ℤ◌, find, int_le, inl, inr, append_assoc}
use Rattle.std.proofs.lemmas.Int.{ints, by_lt_z}
use Rattle.std.specs.Ordering.{int_eq}
use Rattle.std.specs.List.{All}
use Rattle.std.proofs.lemmas.List.Elements.{All-head, All-tail}
use Rattle.chess_moves.proofs.LegalLaws.{moves_legal}
use Rattle.std.proofs.lemmas.Bool.Decides.{Decides-int_eq}
use Rattle.chess_types.specs.board.MoveParts.{MoveParts}
use Rattle.chess_types.specs.board.Attack.{in_check}
use Rattle.chess_types.specs.board.Position.{man_on}
use Rattle.chess_types.specs.board.Lines.{Line, last, extended}
use Rattle.chess_types.specs.board.Legal.{is_legal, legal_moves}
use Rattle.chess_search.specs.Value.{counts_drawn, ended, greatest, value, worth}
use Rattle.chess_search.specs.Best.{best_by}
use Rattle.chess_search.specs.Replies.{first_worth, replies_holding, IsLineOfScore}
use Rattle.chess_search.specs.steps.Windows.{FitsWindow}
use Rattle.chess_search.proofs.WindowLemmas.{going, le_greatest, value-suc, value-ended, ended-drawn, ended-check, ended-stalemate}
use Rattle.chess_search.proofs.RootLemmas.{find_greatest}

int_le-true : (a b : ℤ) → a ≤ℤ b → int_le a b ≡ true
int_le-true a b h = grind (arith, ints)

int_le-false : (a b : ℤ) → b <ℤ a → int_le a b ≡ false
int_le-false a b h = grind (arith, ints)

-- ---- the first of some moves

-- the next move passes, after some that didn't
pub find_here : (p : MoveParts → Bool) (ms : List MoveParts) (i : ℕ) (m : MoveParts) → find p (take i ms) ≡ None → i < length ms → m ≡ get_or ms i m → p m ≡ true →
    find p ms ≡ Some m
find_here p [] i m none h is passes = absurd (omega arith)
find_here p (x ∷ xs) zero m none h is passes = rw (sym (ap p is) ∙ passes) (ap Some (sym is))
find_here p (x ∷ xs) (suc i) m none h is passes = by (p x) refl none (λ rest. find_here p xs i m rest (omega arith) is passes)
  where
    by : (t : Bool) → p x ≡ t → find p (take (suc i) (x ∷ xs)) ≡ None → (find p (take i xs) ≡ None → find p xs ≡ Some m) → find p (x ∷ xs) ≡ Some m
    by true e none rest = let clash : Some x ≡ None = sym (rw e refl) ∙ none in absurd cc
    by false e none rest = rw e (rest (sym (rw e refl) ∙ none))

-- nor does the next
pub find_next : (p : MoveParts → Bool) (ms : List MoveParts) (i : ℕ) (m : MoveParts) → find p (take i ms) ≡ None → i < length ms → m ≡ get_or ms i m → p m ≡ false →
    find p (take (i + 1) ms) ≡ None
find_next p [] i m none h is fails = absurd (omega arith)
find_next p (x ∷ xs) zero m none h is fails = rw (sym (ap p is) ∙ fails) refl
find_next p (x ∷ xs) (suc i) m none h is fails = by (p x) refl none (λ rest. find_next p xs i m rest (omega arith) is fails)
  where
    by : (t : Bool) → p x ≡ t → find p (take (suc i) (x ∷ xs)) ≡ None → (find p (take i xs) ≡ None → find p (take (i + 1) xs) ≡ None) → find p (take (suc i + 1) (x ∷ xs)) ≡ None
    by true e none rest = let clash : Some x ≡ None = sym (rw e refl) ∙ none in absurd cc
    by false e none rest =
        let one_more : suc i + 1 ≡ suc (i + 1) = omega arith in
        let next : find p (take (suc (i + 1)) (x ∷ xs)) ≡ None = rw e (rest (sym (rw e refl) ∙ none)) in
        ap (λ n. find p (take n (x ∷ xs))) one_more ∙ next

-- two tests that agree on each move find the same
find_same : (p q : MoveParts → Bool) (ms : List MoveParts) → ((k : ℕ) (d : MoveParts) → k < length ms → p (get_or ms k d) ≡ q (get_or ms k d)) → find p ms ≡ find q ms
find_same p q [] h = refl
find_same p q (x ∷ xs) h = rw (h 0 x (omega arith), find_same p q xs (λ k d l. h (suc k) d (omega arith))) refl

-- what is found passes
found_passes : (p : MoveParts → Bool) (ms : List MoveParts) (b : MoveParts) → find p ms ≡ Some b → p b ≡ true
found_passes p [] b h = absurd cc
found_passes p (x ∷ xs) b h = by (p x) refl h (λ rest. found_passes p xs b rest)
  where
    by : (t : Bool) → p x ≡ t → find p (x ∷ xs) ≡ Some b → (find p xs ≡ Some b → p b ≡ true) → p b ≡ true
    by true e h later = let same : Some x ≡ Some b = sym (rw e refl) ∙ h in let is : x ≡ b = cc in ap p (sym is) ∙ e
    by false e h later = later (sym (rw e refl) ∙ h)

-- and is one of them
found_has : (P : MoveParts → Type 0) (p : MoveParts → Bool) (ms : List MoveParts) (b : MoveParts) → All P ms → find p ms ≡ Some b → P b
found_has P p [] b all h = absurd cc
found_has P p (x ∷ xs) b all h = by (p x) refl h (λ rest. found_has P p xs b (All-tail P x xs all) rest)
  where
    by : (t : Bool) → p x ≡ t → find p (x ∷ xs) ≡ Some b → (find p xs ≡ Some b → P b) → P b
    by true e h later = let same : Some x ≡ Some b = sym (rw e refl) ∙ h in let is : x ≡ b = cc in subst P is (All-head P x xs all)
    by false e h later = later (sym (rw e refl) ∙ h)

-- so what is found of the legal moves is legal
pub found_legal : (line now : Line) (f : MoveParts → ℤ) (least : ℤ) (m : MoveParts) → first_worth f least (legal_moves (last line)) ≡ Some m → now ≡ line →
    is_legal (last now) m ≡ true
found_legal line now f least m found same =
    ap (λ (l : Line). is_legal (last l) m) same ∙ found_has (λ x. is_legal (last line) x ≡ true) (λ x. int_le least (f x)) (legal_moves (last line)) m (moves_legal (last line)) found

-- the next of the legal moves is the first that is worth as much
pub first_here : (f : MoveParts → ℤ) (a least : ℤ) (ms listed : List MoveParts) (i : ℕ) (m : MoveParts) → a ≡ least → first_worth f a (take i ms) ≡ None → i < length ms →
    m ≡ get_or ms i m → int_le least (f m) ≡ true → ms ≡ listed → first_worth f least listed ≡ Some m
first_here f a least ms listed i m same none inside is enough all =
    ap (first_worth f least) (sym all)
    ∙ find_here (λ x. int_le least (f x)) ms i m (ap (λ v. first_worth f v (take i ms)) (sym same) ∙ none) inside is enough

-- a move that isn't worth so much is not the first either
pub first_later : (f : MoveParts → ℤ) (a least : ℤ) (ms : List MoveParts) (i : ℕ) (m : MoveParts) → a ≡ least → first_worth f a (take i ms) ≡ None → i < length ms →
    m ≡ get_or ms i m → int_le least (f m) ≡ false → first_worth f a (take (i + 1) ms) ≡ None
first_later f a least ms i m same none inside is less =
    find_next (λ x. int_le a (f x)) ms i m none inside is (ap (λ v. int_le v (f m)) same ∙ less)

-- an answer in the window just below a number shows whether the value reaches it
pub reached : (least v answer alpha beta a b : ℤ) → alpha ≡ least -ℤ pos 1 → beta ≡ least → a ≡ least → b ≡ answer → FitsWindow alpha beta v answer → int_le a b ≡ int_le least v
reached least v answer alpha beta a b below is e f fits =
    by_lt_z answer least
    (λ less.
    let under = fits.upper (omega (arith, ints)) in
    int_le-false a b (omega (arith, ints)) ∙ sym (int_le-false least v (omega (arith, ints))))
    (λ more.
    let over = fits.lower (omega (arith, ints)) in
    int_le-true a b (omega (arith, ints)) ∙ sym (int_le-true least v (omega (arith, ints))))

-- ---- replies, one more

pub replies_none : (claims : Bool) (depth : ℕ) (line : Line) (distance : ℕ) (v : ℤ) → depth ≡ 0 → replies_holding claims depth line distance v ≡ []
replies_none claims depth line distance v e = ap (λ n. replies_holding claims n line distance v) e

pub replies_drawn : (claims : Bool) (depth : ℕ) (line : Line) (distance : ℕ) (v : ℤ) → counts_drawn claims line ≡ true → replies_holding claims depth line distance v ≡ []
replies_drawn claims zero line distance v e = refl
replies_drawn claims (suc depth) line distance v e = rw e refl

replies_over : (claims : Bool) (depth : ℕ) (line : Line) (distance : ℕ) (v : ℤ) → counts_drawn claims line ≡ false →
    first_worth (worth claims depth line distance) v (legal_moves (last line)) ≡ None → replies_holding claims (suc depth) line distance v ≡ []
replies_over claims depth line distance v playing none = rw (playing, none) refl

replies_stuck : (claims : Bool) (depth : ℕ) (line : Line) (distance : ℕ) (v : ℤ) (drawn : Bool) → counts_drawn claims line ≡ drawn → legal_moves (last line) ≡ [] →
    replies_holding claims (suc depth) line distance v ≡ []
replies_stuck claims depth line distance v true e none = rw e refl
replies_stuck claims depth line distance v false e none = rw (e, none) refl

replies_suc : (claims : Bool) (depth : ℕ) (line : Line) (distance : ℕ) (v : ℤ) (m : MoveParts) → counts_drawn claims line ≡ false →
    first_worth (worth claims depth line distance) v (legal_moves (last line)) ≡ Some m →
    replies_holding claims (suc depth) line distance v ≡ m ∷ replies_holding claims depth (extended line m) (distance + 1) (neg_ℤ v)
replies_suc claims depth line distance v m playing found = rw (playing, found) refl

-- no move is worth the value
pub replies_end : (claims : Bool) (depth : ℕ) (line : Line) (distance : ℕ) (v : ℤ) → 0 < depth → counts_drawn claims line ≡ false →
    first_worth (worth claims (depth - 1) line distance) v (legal_moves (last line)) ≡ None → replies_holding claims depth line distance v ≡ []
replies_end claims depth line distance v deep playing none =
    let deeper : depth ≡ suc (depth - 1) = omega arith in
    ap (λ n. replies_holding claims n line distance v) deeper ∙ replies_over claims (depth - 1) line distance v playing none

-- one is
pub replies_more : (claims : Bool) (depth : ℕ) (line : Line) (distance : ℕ) (v : ℤ) (m : MoveParts) → 0 < depth → counts_drawn claims line ≡ false →
    first_worth (worth claims (depth - 1) line distance) v (legal_moves (last line)) ≡ Some m →
    replies_holding claims depth line distance v ≡ m ∷ replies_holding claims (depth - 1) (extended line m) (distance + 1) (neg_ℤ v)
replies_more claims depth line distance v m deep playing found =
    let deeper : depth ≡ suc (depth - 1) = omega arith in
    ap (λ n. replies_holding claims n line distance v) deeper ∙ replies_suc claims (depth - 1) line distance v m playing found

-- one reply was pushed, and those after it
pub followed : (claims : Bool) (depth : ℕ) (line : Line) (distance : ℕ) (v w : ℤ) (m : MoveParts) (old pushed new : List MoveParts) → 0 < depth → counts_drawn claims line ≡ false →
    first_worth (worth claims (depth - 1) line distance) v (legal_moves (last line)) ≡ Some m → pushed ≡ old ++ m ∷ [] → w ≡ neg_ℤ v →
    new ≡ pushed ++ replies_holding claims (depth - 1) (extended line m) (distance + 1) w → new ≡ old ++ replies_holding claims depth line distance v
followed claims depth line distance v w m old pushed new deep playing found push negated after =
    let rest = replies_holding claims (depth - 1) (extended line m) (distance + 1) in
    after ∙ (λ i. push i ++ rest (negated i)) ∙ append_assoc old (m ∷ []) (rest (neg_ℤ v)) ∙ ap (λ moves. old ++ moves) (sym (replies_more claims depth line distance v m deep playing found))

-- ---- the line of a score

-- a move that is worth at least the greatest is worth just that
at_greatest : (f : MoveParts → ℤ) (ms : List MoveParts) (k : ℕ) (d : MoveParts) → k < length ms →
    int_le (greatest (map f ms)) (f (get_or ms k d)) ≡ int_eq (f (get_or ms k d)) (greatest (map f ms))
at_greatest f ms k d h =
    let below = le_greatest f ms k d h in
    grind (arith, ints, Decides-int_eq (f (get_or ms k d)) (greatest (map f ms)))

-- so the first that is worth the greatest is the best
first_best : (f : MoveParts → ℤ) (m : MoveParts) (ms : List MoveParts) → (b : MoveParts) ×
    ((first_worth f (greatest (map f (m ∷ ms))) (m ∷ ms) ≡ Some b) × (best_by f (m ∷ ms) ≡ Some (b, greatest (map f (m ∷ ms)))) × (f b ≡ greatest (map f (m ∷ ms))))
first_best f m ms =
    let g = greatest (map f (m ∷ ms)) in
    let found = find_greatest f m ms in
    let same = find_same (λ n. int_le g (f n)) (λ n. int_eq (f n) g) (m ∷ ms) (λ k d l. at_greatest f (m ∷ ms) k d l) in
    let passes : int_eq (f found.0) g ≡ true = found_passes (λ n. int_eq (f n) g) (m ∷ ms) found.0 found.1 in
    (found.0, (same ∙ found.1, rw found.1 refl, (Decides-int_eq (f found.0) g).0 passes))

-- a line at which the game is over or drawn
line_over : (claims : Bool) (depth : ℕ) (line : Line) (distance : ℕ) (v w : ℤ) → ended claims line distance ≡ Some w → v ≡ value claims depth line distance →
    IsLineOfScore claims depth line distance v []
line_over claims depth line distance v w over is =
    (inr (ap is_some over), value-ended claims 0 line distance w over ∙ sym (value-ended claims depth line distance w over) ∙ sym is)

-- if the value is the line's, the replies are the line of the score
pub line_of_score : (claims : Bool) (depth : ℕ) (line : Line) (distance : ℕ) (v : ℤ) → v ≡ value claims depth line distance →
    IsLineOfScore claims depth line distance v (replies_holding claims depth line distance v)
line_of_score claims zero line distance v is = (inl refl, sym is)
line_of_score claims (suc depth) line distance v is = by (legal_moves (last line)) refl (counts_drawn claims line) refl (λ b w later. line_of_score claims depth (extended line b) (distance + 1) w later)
  where
    by : (ms : List MoveParts) → legal_moves (last line) ≡ ms → (drawn : Bool) → counts_drawn claims line ≡ drawn →
        ((b : MoveParts) (w : ℤ) → w ≡ value claims depth (extended line b) (distance + 1) → IsLineOfScore claims depth (extended line b) (distance + 1) w (replies_holding claims depth (extended line b) (distance + 1) w)) →
        IsLineOfScore claims (suc depth) line distance v (replies_holding claims (suc depth) line distance v)
    by [] none drawn e later = rw (replies_stuck claims depth line distance v drawn e none) (mated (in_check (man_on (last line)) (last line).side) refl)
      where
        mated : (t : Bool) → in_check (man_on (last line)) (last line).side ≡ t → IsLineOfScore claims (suc depth) line distance v []
        mated true e = line_over claims (suc depth) line distance v _ (ended-check claims line distance none e) is
        mated false e = line_over claims (suc depth) line distance v _ (ended-stalemate claims line distance none e) is
    by (m ∷ ms) some true e later =
        rw (replies_drawn claims (suc depth) line distance v e)
        (line_over claims (suc depth) line distance v _ (ended-drawn claims line distance (omega (arith, ap length some)) e) is)
    by (m ∷ ms) some false e later =
        let f = worth claims depth line distance in
        let few : 0 < length (legal_moves (last line)) = omega (arith, ap length some) in
        let best = first_best f m ms in
        let b = best.0 in
        let top : v ≡ greatest (map f (m ∷ ms)) = is ∙ value-suc claims depth line distance few e ∙ ap (λ l. greatest (map f l)) some in
        let first : first_worth f v (legal_moves (last line)) ≡ Some b = (λ i. first_worth f (top i) (some i)) ∙ best.1.0 in
        let rest : neg_ℤ v ≡ value claims depth (extended line b) (distance + 1) = omega (arith, ints, top, best.1.2) in
        rw (replies_suc claims depth line distance v b e first)
        (going claims line distance few e, ap (best_by f) some ∙ best.1.1 ∙ ap (λ x. Some (b, x)) (sym top), later b (neg_ℤ v) rest)

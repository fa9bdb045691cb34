-- Moves of which the texts are known.
use Rattle.std.proofs.Common.{◌≡◌, ◌≤◌, ℕ, zero, suc, ◌-◌, ◌==◌, Bool, true, false, List, [], ◌∷◌, ◌++◌, length, reverse, Option, Some, None, Bor, IfSome, is_some, get_or, ltb, inl, inr, refl, sym, ap, subst, ◌∙◌, arith}
use Rattle.std.specs.declared.boxed.Box.{Box}
use Rattle.std.specs.Prelude.{if◌then◌else◌, option_map, slice_get}
use Rattle.std.proofs.lemmas.Option.{slice_get_past, slice_get_read}
use Rattle.std.proofs.lemmas.Bool.{cases_eq, cond-false, cond-true, eq-eqb, eqb-true, ltb-false, ltb-true, ne_eqb}
use Rattle.std.proofs.lemmas.List.{reverse-append}
use Rattle.chess_types.specs.board.MoveParts.{MoveParts}
use Rattle.chess_types.specs.board.Position.{PositionParts, start}
use Rattle.chess_types.specs.board.After.{after}
use Rattle.chess_types.specs.board.Lines.{Line, extended, last}
use Rattle.chess_types.proofs.PlayLaws.{last_extended}
use Rattle.chess_san.specs.Writing.{mark_text, san}
use Rattle.chess_tree.specs.CursorLine.{GoesOn}
use Rattle.chess_tree.specs.GameTree.{TreeParts, line_to}
use Rattle.chess_pgn.proofs.TaskLemmas.{shortened_extended}
use Rattle.chess_pgn.specs.steps.Following.{Follows}
use Rattle.chess_pgn.specs.steps.KnownTexts.{AreKnown, IsKnown, known_at, line_at, way}
use Rattle.chess_pgn.specs.steps.Tasks.{shortened}
use Rattle.chess_pgn.specs.steps.Unmoved.{parts_so_far}
use Rattle.chess_pgn.specs.declared.texts.Known.{Known}

-- ---- one more

-- the way to an earlier one is as it was
stays : (k : Known) (ks : List Known) (place : ℕ) → place ≤ length ks → way (k ∷ ks) place ≡ way ks place
stays k ks place h = cond-false _ _ _ (ne_eqb place (suc (length ks)) (λ e. omega (arith, h, e)))

-- the way to the new one
way_more : (k : Known) (ks : List Known) → way (k ∷ ks) (suc (length ks)) ≡ way ks k.before ++ k.played ∷ []
way_more k ks = cond-true _ _ _ (eq-eqb (suc (length ks)) (suc (length ks)) refl)

-- ---- one of them

pub record Here (ks : List Known) (place : ℕ) (k : Known) : Type 0 where
  pub before : k.before ≤ length ks
  pub within : place ≤ length ks
  pub known : IsKnown (line_at ks k.before) k
  pub moves : way ks place ≡ way ks k.before ++ k.played ∷ []

moved_way : (k : Known) (way1 way2 : List MoveParts) → way2 ≡ way1 → IsKnown (record { start = start; moves = way1 }) k → IsKnown (record { start = start; moves = way2 }) k
moved_way k way1 way2 e = subst (λ (w : List MoveParts). IsKnown (record { start = start; moves = w }) k) (sym e)

some_is : (y z : Known) → Some y ≡ Some z → y ≡ z
some_is y z e = cc

-- the last one
here_last : (x : Known) (xs : List Known) (place : ℕ) → AreKnown (x ∷ xs) → place ≡ suc (length xs) → Here (x ∷ xs) place x
here_last x xs place are at =
    let same = stays x xs x.before are.0 in
    record {
      before = omega (arith, are.0);
      within = omega (arith, at);
      known = moved_way x (way xs x.before) (way (x ∷ xs) x.before) same are.1;
      moves = ap (way (x ∷ xs)) at ∙ way_more x xs ∙ ap (λ (w : List MoveParts). w ++ x.played ∷ []) (sym same);
    }

-- an earlier one
here_before : (x : Known) (xs : List Known) (place : ℕ) (k : Known) → Here xs place k → Here (x ∷ xs) place k
here_before x xs place k h =
    let same = stays x xs k.before h.before in
    record {
      before = omega (arith, h.before);
      within = omega (arith, h.within);
      known = moved_way k (way xs k.before) (way (x ∷ xs) k.before) same h.known;
      moves = stays x xs place h.within ∙ h.moves ∙ ap (λ (w : List MoveParts). w ++ k.played ∷ []) (sym same);
    }

here_by : (x : Known) (xs : List Known) (place : ℕ) (k : Known) (b : Bool) → AreKnown (x ∷ xs) → (known_at xs place ≡ Some k → Here xs place k) → b ≡ (place == suc (length xs)) → (if b then Some x else known_at xs place) ≡ Some k → Here (x ∷ xs) place k
here_by x xs place k true are earlier b e = subst (λ (z : Known). Here (x ∷ xs) place z) (some_is x k e) (here_last x xs place are (eqb-true _ _ (sym b)))
here_by x xs place k false are earlier b e = here_before x xs place k (earlier e)

pub here : (ks : List Known) (place : ℕ) (k : Known) → known_at ks place ≡ Some k → AreKnown ks → Here ks place k
here [] place k e are = absurd cc
here (x ∷ xs) place k e are = here_by x xs place k (place == suc (length xs)) are (λ h. here xs place k h are.2) refl e

-- to what isn't one of them there is no way
none_by : (x : Known) (xs : List Known) (place : ℕ) (b : Bool) → (known_at xs place ≡ None → way xs place ≡ []) → (if b then Some x else known_at xs place) ≡ None → (if b then way xs x.before ++ x.played ∷ [] else way xs place) ≡ []
none_by x xs place true earlier e = absurd cc
none_by x xs place false earlier e = earlier e

none_way : (ks : List Known) (place : ℕ) → known_at ks place ≡ None → way ks place ≡ []
none_way [] place e = refl
none_way (x ∷ xs) place e = none_by x xs place (place == suc (length xs)) (none_way xs place) e

none_at : (ks : List Known) → known_at ks 0 ≡ None
none_at [] = refl
none_at (x ∷ xs) = cond-false _ _ _ (ne_eqb 0 (suc (length xs)) (λ e. omega (arith, e))) ∙ none_at xs

-- ---- by its place among all

one_longer : {A : Type 0} (xs : List A) (x : A) → length (xs ++ x ∷ []) ≡ suc (length xs)
one_longer [] x = refl
one_longer (y ∷ xs) x = ap suc (one_longer xs x)

first_at : (ks : List Known) (x : Known) → known_at (ks ++ x ∷ []) 1 ≡ Some x
first_at [] x = refl
first_at (k ∷ ks) x = cond-false _ _ _ (ne_eqb 1 (suc (length (ks ++ x ∷ []))) (λ e. omega (arith, e, one_longer ks x))) ∙ first_at ks x

later_at : (ks : List Known) (x : Known) (i : ℕ) → known_at (ks ++ x ∷ []) (suc (suc i)) ≡ known_at ks (suc i)
later_at [] x i = cond-false _ _ _ (ne_eqb (suc (suc i)) 1 (λ e. omega (arith, e)))
later_at (k ∷ ks) x i =
    elim (cases_eq i (length ks)) [
      | inl e ↦ cond-true _ _ _ (eq-eqb (suc (suc i)) (suc (length (ks ++ x ∷ []))) (ap suc (ap suc e ∙ sym (one_longer ks x)))) ∙ sym (cond-true _ _ _ (eq-eqb (suc i) (suc (length ks)) (ap suc e)))
      | inr n ↦ cond-false _ _ _ (ne_eqb (suc (suc i)) (suc (length (ks ++ x ∷ []))) (λ e. n (omega (arith, e, one_longer ks x)))) ∙ later_at ks x i ∙ sym (cond-false _ _ _ (ne_eqb (suc i) (suc (length ks)) (λ e. n (omega (arith, e)))))
    ]

reversed : (x : Known) (xs : List Known) (place : ℕ) → known_at (reverse (x ∷ xs)) place ≡ known_at (reverse xs ++ x ∷ []) place
reversed x xs place = ap (λ (l : List Known). known_at l place) (reverse-append (x ∷ []) xs)

pub by_place : (items : List Known) (i : ℕ) → known_at (reverse items) (suc i) ≡ slice_get items i
by_place [] i = refl
by_place (x ∷ xs) zero = reversed x xs 1 ∙ first_at (reverse xs) x
by_place (x ∷ xs) (suc i) = reversed x xs (suc (suc i)) ∙ later_at (reverse xs) x i ∙ by_place xs i

pub got : (xs : List Known) (i : ℕ) (o : Option (Bor Known)) → is_some o ≡ ltb i (length xs) → IfSome o (λ x. x.now ≡ get_or xs i x.now) → option_map (λ x. x.now) o ≡ slice_get xs i
got xs i None e h = sym (slice_get_past xs i (ltb-false i (length xs) (sym e)))
got xs i (Some x) e h = sym (slice_get_read xs (length xs) i x.now refl (ltb-true i (length xs) (sym e)) h)

pub no_place : (ks : List Known) (place : ℕ) → place ≡ 0 → None ≡ known_at ks place
no_place ks place e = sym (ap (known_at ks) e ∙ none_at ks)

pub at_place : (items slice ks : List Known) (place : ℕ) → slice ≡ items → reverse items ≡ ks → (place ≡ 0 → ⊥) → slice_get slice (place - 1) ≡ known_at ks place
at_place items slice ks zero e v n = absurd (n refl)
at_place items slice ks (suc i) e v n =
    ap (λ (l : List Known). slice_get l (suc i - 1)) e ∙ ap (slice_get items) (omega arith) ∙ sym (by_place items i) ∙ ap (λ (l : List Known). known_at l (suc i)) v

pub known_here : (items ks : List Known) (place : ℕ) (k : Known) → reverse items ≡ ks → AreKnown (reverse items) → known_at ks place ≡ Some k → Here ks place k
known_here items ks place k v are e = here ks place k e (subst AreKnown v are)

-- ---- lines

-- the line to the one before it
pub line_before : (ks : List Known) (place : ℕ) (k : Known) → Here ks place k → line_at ks k.before ≡ shortened (line_at ks place)
line_before ks place k h = sym (ap (λ (w : List MoveParts). shortened (record { start = start; moves = w })) h.moves ∙ shortened_extended (line_at ks k.before) k.played)

pub line_none : (ks : List Known) (place : ℕ) → known_at ks place ≡ None → line_at ks 0 ≡ shortened (line_at ks place)
line_none ks place e = ap (λ (w : List MoveParts). record { start = start; moves = w }) (none_way ks 0 (none_at ks)) ∙ sym (ap (λ (w : List MoveParts). shortened (record { start = start; moves = w })) (none_way ks place e))

pub line_here : (ks : List Known) (place before : ℕ) (k : Known) (m : MoveParts) → Here ks place k → k.before ≡ before → k.played ≡ m → line_at ks place ≡ extended (line_at ks before) m
line_here ks place before k m h e p = ap (λ (w : List MoveParts). record { start = start; moves = w }) (h.moves ∙ (λ i. way ks (e i) ++ p i ∷ []))

pub known_of : (ks : List Known) (place before : ℕ) (k : Known) → Here ks place k → k.before ≡ before → IsKnown (line_at ks before) k
known_of ks place before k h e = subst (λ (n : ℕ). IsKnown (line_at ks n) k) e h.known

pub line_start : (ks : List Known) → line_at ks 0 ≡ record { start = start; moves = [] }
line_start ks = ap (λ (w : List MoveParts). record { start = start; moves = w }) (none_way ks 0 (none_at ks))

-- ---- at a cursor

pub some_if : {A P : Type 0} (o : Option A) → is_some o ≡ true → IfSome o (λ x. P) → P
some_if None e h = absurd cc
some_if (Some x) e h = h

-- a step back
pub went_back : {Z : Type 0} (at : Option ℕ) (place result : ℕ) (ks : List Known) (p : PositionParts) (held : Option (Box TreeParts Z)) (box : Box TreeParts Z) (old new : TreeParts) → at ≡ Some place → held ≡ Some box → old ≡ box.value → GoesOn new old
    → Follows at ks (parts_so_far p held) → line_at ks result ≡ shortened (line_at ks place) → line_to new ≡ line_at ks result
went_back {Z} at place result ks p held box old new e h o on follows b =
    let here : Follows (Some place) ks (parts_so_far p (Some box)) = subst (λ (x : Option (Box TreeParts Z)). Follows (Some place) ks (parts_so_far p x)) h (subst (λ (x : Option ℕ). Follows x ks (parts_so_far p held)) e follows) in
    sym (shortened_extended (line_to new) on.move) ∙ ap shortened (sym on.line ∙ ap line_to o ∙ here.0) ∙ sym b

-- the move that was made last
last_move : (ms : List MoveParts) (m : MoveParts) → slice_get (ms ++ m ∷ []) (length ms) ≡ Some m
last_move [] m = refl
last_move (n ∷ ms) m = last_move ms m

some_move : (m n : MoveParts) → Some m ≡ Some n → m ≡ n
some_move m n e = cc

-- a step to a child
pub stepped : (place next : ℕ) (ks : List Known) (old new : TreeParts) (depth : ℕ) (played : Option MoveParts) (m : MoveParts) → GoesOn old new → line_to old ≡ line_at ks place → depth ≡ length (line_to old).moves → played ≡ slice_get (line_to new).moves depth
    → played ≡ Some m → line_at ks next ≡ extended (line_at ks place) m → line_to new ≡ line_at ks next
stepped place next ks old new depth played m on follows d p some here =
    let made : slice_get (line_to new).moves depth ≡ Some on.move = ap (λ (l : Line). slice_get l.moves depth) on.line ∙ ap (slice_get ((line_to old).moves ++ on.move ∷ [])) d ∙ last_move (line_to old).moves on.move in
    let same : on.move ≡ m = some_move on.move m (sym made ∙ sym p ∙ some) in
    on.line ∙ (λ i. extended (follows i) (same i)) ∙ sym here

-- ---- the text of a move, in one part or two

pub text_whole : (line l1 l2 l3 : Line) (m : MoveParts) (text mark : List ℕ) → l1 ≡ line → l2 ≡ l1 → l3 ≡ extended l2 m → text ++ mark_text (after (last l1) m) ≡ san (last l1) m → mark ≡ mark_text (last l3) → text ++ mark ≡ san (last line) m
text_whole line l1 l2 l3 m text mark e1 e2 e3 whole e4 =
    let k : mark_text (last l3) ≡ mark_text (after (last l1) m) =
    ap (λ (l : Line). mark_text (last l)) e3 ∙ ap mark_text (last_extended l2 m) ∙ ap (λ (l : Line). mark_text (after (last l) m)) e2 in
    ap (λ (b : List ℕ). text ++ b) (e4 ∙ k) ∙ whole ∙ ap (λ (l : Line). san (last l) m) e1

pub marked_text : (line made known : Line) (m : MoveParts) (whole : Bool) (text final : List ℕ) → made ≡ extended line m → line ≡ known
    → (whole ≡ false → text ++ mark_text (after (last line) m) ≡ san (last line) m) → (whole ≡ true → text ≡ san (last line) m)
    → final ≡ (if whole then text else text ++ mark_text (last made)) → final ≡ san (last known) m
marked_text line made known m true text final e k two one f = f ∙ one refl ∙ ap (λ (l : Line). san (last l) m) k
marked_text line made known m false text final e k two one f = f ∙ ap (λ (p : PositionParts). text ++ mark_text p) (ap last e ∙ last_extended line m) ∙ two refl ∙ ap (λ (l : Line). san (last l) m) k

-- The legal moves to one square that become one thing, by the squares where they begin.
use Rattle.std.proofs.Common.{◌≡◌, ◌≢◌, ℕ, zero, suc, ◌+◌, ◌<◌, ◌≤◌, ◌==◌, Bool, true, false, not, ◌&&◌, ◌||◌, List, [], ◌∷◌, ◌++◌, map, filter, Option, Some, None, refl, sym, ap, ◌∙◌, arith, inl, inr, length, ltb}
use Rattle.std.specs.Prelude.{if◌then◌else◌}
use Rattle.std.specs.List.{list_any, range_with_len, flat_map}
use Rattle.std.specs.Ordering.{nat_cmp}
use Rattle.std.specs.FinSet.{FinSet, contains, intersection, contains-intersection}
use Rattle.std.proofs.lemmas.Bool.{cases_Bool, cases_eq, true≢false, false_from_ne_true, and_parts, lt-ltb, ne_eqb}
use Rattle.std.proofs.lemmas.Cmp.{nat_cmp_total}
use Rattle.std.proofs.lemmas.List.Elements.{filter-append}
use Rattle.chess_types.specs.declared.board.man.Kind.{Kind}
use Rattle.chess_types.specs.declared.board.man.Kind.TheVariants.{Pawn, Knight, Bishop, Rook, Queen, King}
use Rattle.chess_types.specs.board.Squares.{squares}
use Rattle.chess_types.specs.board.Texts.{names_promotion}
use Rattle.chess_types.specs.board.MoveParts.{MoveParts}
use Rattle.chess_types.specs.board.Outcome.{is_without}
use Rattle.chess_types.specs.board.Position.{PositionParts}
use Rattle.chess_types.specs.board.Legal.{is_legal, legal_moves, promotions, moves_between, moves_from, all_moves}
use Rattle.chess_moves.specs.steps.Targets.{move_to}
use Rattle.chess_san.specs.declared.form.Form.{Form}
use Rattle.chess_san.specs.Naming.{becomes, names}
use Rattle.chess_san.specs.Writing.{is_rival}
use Rattle.chess_san.specs.steps.Origins.{Begins, BeginsAmong, Comes, ComesBy, from_each, legal_and}
use Rattle.chess_moves.proofs.Candidates.{pseudo_names}
use Rattle.chess_types.proofs.MoveLemmas.{legal_pseudo}
use Rattle.chess_san.proofs.SameLemmas.{becomes_itself}

filter_filter : (t l : MoveParts → Bool) (xs : List MoveParts) → filter t (filter l xs) ≡ filter (λ m. t m && l m) xs
filter_filter t l [] = refl
filter_filter t l (x ∷ xs) =
    elim (cases_Bool (l x)) [
      | inl legal ↦ elim (cases_Bool (t x)) [
        | inl passes ↦ rw (legal, passes) (ap (λ (ys : List MoveParts). x ∷ ys) (filter_filter t l xs))
        | inr out ↦ rw (legal, out) (filter_filter t l xs)
      ]
      | inr other ↦ elim (cases_Bool (t x)) [
        | inl passes ↦ rw (other, passes) (filter_filter t l xs)
        | inr out ↦ rw (other, out) (filter_filter t l xs)
      ]
    ]

module _ (test : MoveParts → Bool) (to : ℕ) (promo : Option Kind)
    (goes : (m : MoveParts) → test m ≡ true → (m.to ≡ to) × (m.promo ≡ promo) × (names_promotion m.promo ≡ true)) where
  other_to : (a b : ℕ) (named : Option Kind) → b ≢ to → test (move_to a b named) ≡ false
  other_to a b named h = false_from_ne_true _ (λ e. h (goes (move_to a b named) e).0)

  other_name : (a : ℕ) (named : Option Kind) → (named ≡ promo → ⊥) → test (move_to a to named) ≡ false
  other_name a named h = false_from_ne_true _ (λ e. h (goes (move_to a to named) e).1)

  between_none : (a b : ℕ) → b ≢ to → filter test (moves_between a b) ≡ []
  unfolding promotions
  between_none a b h = rw (other_to a b None h, other_to a b (Some Queen) h, other_to a b (Some Rook) h, other_to a b (Some Bishop) h, other_to a b (Some Knight) h) refl

  own_name : (a : ℕ) (named : Option Kind) → names_promotion named ≡ false → test (move_to a to named) ≡ false
  own_name a named h = false_from_ne_true _ (λ e. true≢false (sym (goes (move_to a to named) e).2 ∙ h))

  -- of some names only the wanted one counts
  named_only : (a : ℕ) (names : List (Option Kind)) → filter test (map (move_to a to) names) ≡ filter test (map (move_to a to) (filter (becomes promo) names))
  named_only a [] = refl
  named_only a (named ∷ names) =
      elim (cases_Bool (becomes promo named)) [
        | inl same ↦ rw same (ap (λ (ms : List MoveParts). if test (move_to a to named) then move_to a to named ∷ ms else ms) (named_only a names))
        | inr other ↦ rw (other, other_name a named (λ e. true≢false (sym (ap (becomes promo) e ∙ becomes_itself promo) ∙ other))) (named_only a names)
      ]

is_named : (test : MoveParts → Bool) (a to : ℕ) (promo : Option Kind) → ((m : MoveParts) → test m ≡ true → (m.to ≡ to) × (m.promo ≡ promo) × (names_promotion m.promo ≡ true)) →
    filter test (moves_between a to) ≡ filter test (move_to a to promo ∷ [])
unfolding promotions
is_named test a to (Some Pawn) goes = named_only test to (Some Pawn) goes a promotions ∙ rw (own_name test to (Some Pawn) goes a (Some Pawn) refl) refl
is_named test a to (Some King) goes = named_only test to (Some King) goes a promotions ∙ rw (own_name test to (Some King) goes a (Some King) refl) refl
is_named test a to promo goes = named_only test to promo goes a promotions

module _ (test : MoveParts → Bool) (to : ℕ) (promo : Option Kind)
    (goes : (m : MoveParts) → test m ≡ true → (m.to ≡ to) × (m.promo ≡ promo) × (names_promotion m.promo ≡ true)) where
  none_past : (a b n : ℕ) → to < b → filter test (flat_map (moves_between a) (range_with_len b n)) ≡ []
  none_past a b zero high = refl
  none_past a b (suc n) high =
      filter-append test (moves_between a b) (flat_map (moves_between a) (range_with_len (b + 1) n))
      ∙ ap (λ (ys : List MoveParts). ys ++ filter test (flat_map (moves_between a) (range_with_len (b + 1) n))) (between_none test to promo goes a b (λ e. omega arith))
      ∙ none_past a (b + 1) n (omega arith)

  one_target : (a b n : ℕ) → b ≤ to → to < b + n → filter test (flat_map (moves_between a) (range_with_len b n)) ≡ filter test (move_to a to promo ∷ [])
  one_target a b zero low high = absurd (omega arith)
  one_target a b (suc n) low high =
      filter-append test (moves_between a b) (flat_map (moves_between a) (range_with_len (b + 1) n))
      ∙ elim (cases_eq b to) [
        | inl same ↦
            (λ i. filter test (moves_between a (same i)) ++ none_past a (b + 1) n (omega arith) i) ∙ nil_last (filter test (moves_between a to)) ∙ is_named test a to promo goes
        | inr other ↦
            ap (λ (ys : List MoveParts). ys ++ filter test (flat_map (moves_between a) (range_with_len (b + 1) n))) (between_none test to promo goes a b other)
            ∙ one_target a (b + 1) n (omega arith) (omega arith)
      ]
    where
      nil_last : (xs : List MoveParts) → xs ++ [] ≡ xs
      nil_last [] = refl
      nil_last (x ∷ xs) = ap (λ (l : List MoveParts). x ∷ l) (nil_last xs)

  one_origin : (a : ℕ) → to < 64 → filter test (moves_from a) ≡ filter test (move_to a to promo ∷ [])
  unfolding moves_from squares
  one_origin a on = one_target a 0 64 (omega arith) (omega arith)

  by_origin : to < 64 → (xs : List ℕ) → filter test (flat_map moves_from xs) ≡ filter test (map (λ a. move_to a to promo) xs)
  by_origin on [] = refl
  by_origin on (a ∷ xs) =
      filter-append test (moves_from a) (flat_map moves_from xs)
      ∙ (λ i. one_origin a on i ++ by_origin on xs i)
      ∙ sym (filter-append test (move_to a to promo ∷ []) (map (λ x. move_to x to promo) xs))

  all_by_origin : to < 64 → filter test all_moves ≡ filter test (map (λ a. move_to a to promo) squares)
  unfolding all_moves
  all_by_origin on = by_origin on squares

-- of the legal moves those that pass a test that fixes where they go and what they become
pub legal_by_origin : (p : PositionParts) (t : MoveParts → Bool) (to : ℕ) (promo : Option Kind) → to < 64 →
    ((m : MoveParts) → t m ≡ true → is_legal p m ≡ true → (m.to ≡ to) × (m.promo ≡ promo)) →
    filter t (legal_moves p) ≡ filter (λ m. t m && is_legal p m) (map (λ a. move_to a to promo) squares)
unfolding legal_moves
legal_by_origin p t to promo on goes =
    filter_filter t (is_legal p) all_moves
    ∙ all_by_origin (λ m. t m && is_legal p m) to promo
    (λ m h.
    let q = and_parts _ _ h in
    let g = goes m q.0 q.1 in
    (g.0, g.1, pseudo_names p m (legal_pseudo p m q.1))) on

map_kept : (test : MoveParts → Bool) (f : ℕ → MoveParts) (keep : ℕ → Bool) (a n : ℕ) → ((x : ℕ) → x < a + n → keep x ≡ test (f x)) →
    map f (filter keep (range_with_len a n)) ≡ filter test (map f (range_with_len a n))
map_kept test f keep a zero h = refl
map_kept test f keep a (suc n) h =
    let rest : map f (filter keep (range_with_len (a + 1) n)) ≡ filter test (map f (range_with_len (a + 1) n)) = map_kept test f keep (a + 1) n (λ x low. h x (omega arith)) in
    let here : keep a ≡ test (f a) = h a (omega arith) in
    elim (cases_Bool (keep a)) [
      | inl kept ↦ rw (kept, sym here ∙ kept) (ap (λ (ms : List MoveParts). f a ∷ ms) rest)
      | inr out ↦ rw (out, sym here ∙ out) rest
    ]

-- so they are the moves from the squares where such moves begin
pub begun : (p : PositionParts) (t : MoveParts → Bool) (to : ℕ) (promo : Option Kind) (set : FinSet nat_cmp) → to < 64 → Begins set t p to promo →
    ((m : MoveParts) → t m ≡ true → is_legal p m ≡ true → (m.to ≡ to) × (m.promo ≡ promo)) →
    from_each to promo (filter (contains set) squares) ≡ filter t (legal_moves p)
unfolding squares
begun p t to promo set on begins goes =
    map_kept (legal_and t p) (λ a. move_to a to promo) (contains set) 0 64 (λ x low. begins x (omega arith)) ∙ sym (legal_by_origin p t to promo on goes)

implied : (a b : Bool) → (b ≡ true → a ≡ true) → (a && b) ≡ b
implied a true h = rw (h refl) refl
implied true false h = refl
implied false false h = refl

-- of the squares that a form's moves may begin on, those where one does
pub begins_named : (p : PositionParts) (form : Form) (to : ℕ) (promo : Option Kind) (all set : FinSet nat_cmp) → ComesBy all p form →
    BeginsAmong all set (names p form) p to promo → Begins set (names p form) p to promo
begins_named p form to promo all set comes is s on =
    is s on ∙ implied _ _ (λ h. let q = and_parts _ _ h in comes (move_to s to promo) on q.1 q.0)

-- the same of a man's rivals
pub begins_rival : (p : PositionParts) (k : Kind) (from to : ℕ) (all set : FinSet nat_cmp) → Comes all p k to →
    BeginsAmong all set (is_rival p k from to) p to None → Begins set (is_rival p k from to) p to None
begins_rival p k from to all set comes is s on =
    is s on ∙ implied _ _ (λ h. let q = and_parts _ _ h in comes (move_to s to None) on refl q.1 (and_parts _ _ q.0).1)

-- what holds of some of them
pub any_from : (test : ℕ → Bool) (to : ℕ) (promo : Option Kind) (xs : List ℕ) → list_any test xs ≡ list_any (λ (n : MoveParts). test n.from) (from_each to promo xs)
any_from test to promo [] = refl
any_from test to promo (x ∷ xs) = ap (λ (b : Bool). test x || b) (any_from test to promo xs)

pub none_from : (to : ℕ) (promo : Option Kind) (xs : List ℕ) → (length xs == 0) ≡ is_without (from_each to promo xs)
none_from to promo [] = refl
none_from to promo (x ∷ xs) = ne_eqb (length (x ∷ xs)) 0 (λ e. omega (arith, e))

-- what holds of some of a set holds of one that another set has too
any_in : (test : ℕ → Bool) (set common : FinSet nat_cmp) (a n : ℕ) → ((s : ℕ) → s < a + n → contains common s ≡ (contains set s && test s)) →
    not (length (filter (contains common) (range_with_len a n)) == 0) ≡ list_any test (filter (contains set) (range_with_len a n))
any_in test set common a zero same = refl
any_in test set common a (suc n) same =
    let rest = any_in test set common (a + 1) n (λ s low. same s (omega arith)) in
    let here : contains common a ≡ (contains set a && test a) = same a (omega arith) in
    elim (cases_Bool (contains set a)) [
      | inl held ↦ elim (cases_Bool (test a)) [
        | inl passes ↦ rw (held, passes, here ∙ (λ i. held i && passes i)) (ap not (ne_eqb (length (a ∷ filter (contains common) (range_with_len (a + 1) n))) 0 (λ e. omega (arith, e))))
        | inr out ↦ rw (held, out, here ∙ (λ i. held i && out i)) rest
      ]
      | inr other ↦ rw (other, here ∙ (λ i. other i && test a)) rest
    ]

pub any_common : (test : ℕ → Bool) (set line : FinSet nat_cmp) → ((s : ℕ) → contains line s ≡ (ltb s 64 && test s)) →
    not (length (filter (contains (intersection set line)) squares) == 0) ≡ list_any test (filter (contains set) squares)
unfolding squares
any_common test set line on =
    any_in test set (intersection set line) 0 64 (λ s low. contains-intersection nat_cmp_total set line s ∙ ap (λ b. contains set s && b) (on s ∙ ap (λ b. b && test s) (lt-ltb s 64 low)))

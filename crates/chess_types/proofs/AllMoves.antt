-- The list of all moves: what it holds, and what a test lets through.
use Rattle.std.proofs.Common.{◌≡◌, ℕ, zero, suc, ◌+◌, ◌<◌, ◌≤◌, Bool, true, List, [], ◌∷◌, length, filter, get_or, Option, Some, None, refl, sym, subst, arith, inl, inr}
use Rattle.std.specs.List.{range_with_len, flat_map, All, Contains}
use Rattle.std.proofs.lemmas.List.Elements.{filter-append, All-append, Contains-append_left, Contains-append_right}
use Rattle.std.proofs.lemmas.Bool.{cases_eq, true≢false}
use Rattle.chess_types.specs.declared.board.man.Kind.{Kind}
use Rattle.chess_types.specs.declared.board.man.Kind.TheVariants.{Pawn, Knight, Bishop, Rook, Queen, King}
use Rattle.chess_types.specs.board.Squares.{squares}
use Rattle.chess_types.specs.board.MoveParts.{MoveParts}
use Rattle.chess_types.specs.board.Texts.{names_promotion}
use Rattle.chess_types.specs.board.Legal.{promotions, moves_between, moves_from, all_moves}

-- a move between squares of the board
pub record IsMove (m : MoveParts) : Type 0 where
  pub from : m.from < 64
  pub to : m.to < 64

-- and it names nothing, or what a pawn may become
pub record IsNamed (m : MoveParts) : Type 0 where
  pub from : m.from < 64
  pub to : m.to < 64
  pub names : names_promotion m.promo ≡ true

-- the move between two squares that names this
abbrev to_name : ℕ → ℕ → Option Kind → MoveParts
to_name from to promo = record { from = from; to = to; promo = promo }

no_element : {X : Type 0} (P : X → Type 0) → All P []
no_element P k d h = absurd (omega arith)

in_pieces : (P : MoveParts → Type 0) (f : ℕ → List MoveParts) (a n : ℕ) → ((x : ℕ) → x < a + n → All P (f x)) → All P (flat_map f (range_with_len a n))
in_pieces P f a zero h = no_element P
in_pieces P f a (suc n) h =
    All-append P (f a) (flat_map f (range_with_len (a + 1) n)) (h a (omega arith)) (in_pieces P f (a + 1) n (λ x within. h x (omega arith)))

between_named : (a b : ℕ) → a < 64 → b < 64 → All IsNamed (moves_between a b)
unfolding promotions
between_named a b ha hb zero d h = record { from = ha; to = hb; names = refl }
between_named a b ha hb (suc zero) d h = record { from = ha; to = hb; names = refl }
between_named a b ha hb (suc (suc zero)) d h = record { from = ha; to = hb; names = refl }
between_named a b ha hb (suc (suc (suc zero))) d h = record { from = ha; to = hb; names = refl }
between_named a b ha hb (suc (suc (suc (suc zero)))) d h = record { from = ha; to = hb; names = refl }
between_named a b ha hb (suc (suc (suc (suc (suc k))))) d h = absurd (omega arith)

-- so is each of the list
pub all_named : All IsNamed all_moves
unfolding all_moves moves_from squares
all_named =
    in_pieces IsNamed moves_from 0 64 (λ a ha. in_pieces IsNamed (moves_between a) 0 64 (λ b hb. between_named a b (omega arith) (omega arith)))

pub all_on_board : All IsMove all_moves
all_on_board k d h = let named = all_named k d h in record { from = named.from; to = named.to }

one_here : (test : MoveParts → Bool) (m : MoveParts) (ms : List MoveParts) → test m ≡ true → Contains (filter test (m ∷ ms)) m
one_here test m ms h = rw h (0, omega arith, refl)

one_on : (test : MoveParts → Bool) (m n : MoveParts) (ms : List MoveParts) → Contains (filter test ms) m → Contains (filter test (n ∷ ms)) m
one_on test m n ms h =
    subst (λ (xs : List MoveParts). Contains xs m) (sym (filter-append test (n ∷ []) ms)) (Contains-append_right (filter test (n ∷ [])) (filter test ms) m h)

in_piece : (test : MoveParts → Bool) (f : ℕ → List MoveParts) (a n x : ℕ) (m : MoveParts) → a ≤ x → x < a + n → Contains (filter test (f x)) m →
    Contains (filter test (flat_map f (range_with_len a n))) m
in_piece test f a zero x m low high h = absurd (omega arith)
in_piece test f a (suc n) x m low high h =
    subst (λ (xs : List MoveParts). Contains xs m) (sym (filter-append test (f a) (flat_map f (range_with_len (a + 1) n))))
    (elim (cases_eq a x) [
      | inl same ↦
          Contains-append_left (filter test (f a)) (filter test (flat_map f (range_with_len (a + 1) n))) m
          (subst (λ (y : ℕ). Contains (filter test (f y)) m) (sym same) h)
      | inr other ↦
          Contains-append_right (filter test (f a)) (filter test (flat_map f (range_with_len (a + 1) n))) m
          (in_piece test f (a + 1) n x m (omega arith) (omega arith) h)
    ])

filter_at : (test : MoveParts → Bool) (ms : List MoveParts) (k : ℕ) (m : MoveParts) → k < length ms → get_or ms k m ≡ m → test m ≡ true →
    Contains (filter test ms) m
filter_at test [] k m within is h = absurd (omega arith)
filter_at test (n ∷ ms) zero m within is h = subst (λ (x : MoveParts). Contains (filter test (x ∷ ms)) m) (sym is) (one_here test m ms h)
filter_at test (n ∷ ms) (suc k) m within is h = one_on test m n ms (filter_at test ms k m (omega arith) is h)

in_between : (test : MoveParts → Bool) (a b : ℕ) (promo : Option Kind) → names_promotion promo ≡ true → test (to_name a b promo) ≡ true →
    Contains (filter test (moves_between a b)) ((to_name a b promo))
unfolding promotions
in_between test a b None n h = filter_at test (moves_between a b) 0 (to_name a b None) (omega arith) refl h
in_between test a b (Some Pawn) n h = absurd (true≢false (sym n))
in_between test a b (Some King) n h = absurd (true≢false (sym n))
in_between test a b (Some Queen) n h = filter_at test (moves_between a b) 1 (to_name a b (Some Queen)) (omega arith) refl h
in_between test a b (Some Rook) n h = filter_at test (moves_between a b) 2 (to_name a b (Some Rook)) (omega arith) refl h
in_between test a b (Some Bishop) n h = filter_at test (moves_between a b) 3 (to_name a b (Some Bishop)) (omega arith) refl h
in_between test a b (Some Knight) n h = filter_at test (moves_between a b) 4 (to_name a b (Some Knight)) (omega arith) refl h

-- of these moves each that passes a test is among those let through
pub passing_listed : (test : MoveParts → Bool) (m : MoveParts) → IsMove m → names_promotion m.promo ≡ true → test m ≡ true → Contains (filter test all_moves) m
unfolding all_moves moves_from squares
passing_listed test m on_board names h =
    in_piece test moves_from 0 64 m.from m (omega arith) on_board.from
    (in_piece test (moves_between m.from) 0 64 m.to m (omega arith) on_board.to (in_between test m.from m.to m.promo names h))

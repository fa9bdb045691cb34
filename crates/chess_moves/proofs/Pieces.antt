-- Moves in pieces, one for each square, and a list to which they are added piece by piece.
--   pieces     what passes, of the pieces of some numbers
--   rest_from  the squares that are still to come, from the n-th on
use Rattle.std.proofs.Common.{◌≡◌, ℕ, zero, suc, ◌+◌, ◌<◌, ◌≤◌, Bool, false, List, [], ◌∷◌, ◌++◌, length, filter, refl, sym, ap, ◌∙◌, arith, append_assoc, append-nil, length-append, inl, inr}
use Rattle.std.specs.List.{range_with_len, flat_map}
use Rattle.std.proofs.lemmas.List.Elements.{filter-append}
use Rattle.std.proofs.lemmas.Bool.{cases_Bool}
use Rattle.chess_types.specs.board.MoveParts.{MoveParts}
use Rattle.chess_types.specs.board.Squares.{squares}
use Rattle.chess_types.specs.board.Position.{PositionParts}
use Rattle.chess_types.specs.board.Legal.{is_legal, moves_between, moves_from, all_moves}

abbrev pub pieces : (MoveParts → Bool) → (ℕ → List MoveParts) → List ℕ → List MoveParts
pieces test f xs = filter test (flat_map f xs)

-- the moves of one origin, by target
pub from_pieces : (test : MoveParts → Bool) (a : ℕ) → filter test (moves_from a) ≡ pieces test (moves_between a) squares
unfolding moves_from
from_pieces test a = refl

-- all moves, by origin
pub all_pieces : (test : MoveParts → Bool) → filter test all_moves ≡ pieces test moves_from squares
unfolding all_moves
all_pieces test = refl

module _ (test : MoveParts → Bool) (f : ℕ → List MoveParts) where
  pub pieces_first : (x : ℕ) (xs : List ℕ) → pieces test f (x ∷ xs) ≡ filter test (f x) ++ pieces test f xs
  pieces_first x xs = filter-append test (f x) (flat_map f xs)

  -- where nothing passes of any piece
  pub pieces_none : (xs : List ℕ) → ((x : ℕ) → filter test (f x) ≡ []) → pieces test f xs ≡ []
  pieces_none [] h = refl
  pieces_none (x ∷ xs) h = pieces_first x xs ∙ ap (λ ys. ys ++ pieces test f xs) (h x) ∙ pieces_none xs h

  -- pieces of which nothing passes can be left out
  pub pieces_kept : (keep : ℕ → Bool) (a n : ℕ) → ((x : ℕ) → x < a + n → keep x ≡ false → filter test (f x) ≡ []) →
      pieces test f (filter keep (range_with_len a n)) ≡ pieces test f (range_with_len a n)
  pieces_kept keep a zero h = refl
  pieces_kept keep a (suc n) h =
      let rest : pieces test f (filter keep (range_with_len (a + 1) n)) ≡ pieces test f (range_with_len (a + 1) n) =
      pieces_kept keep (a + 1) n (λ x within out. h x (omega arith) out) in
      elim (cases_Bool (keep a)) [
        | inl kept ↦
            rw kept
            (pieces_first a (filter keep (range_with_len (a + 1) n))
            ∙ ap (λ ys. filter test (f a) ++ ys) rest
            ∙ sym (pieces_first a (range_with_len (a + 1) n)))
        | inr out ↦
            rw out
            (rest
            ∙ sym (pieces_first a (range_with_len (a + 1) n) ∙ ap (λ ys. ys ++ pieces test f (range_with_len (a + 1) n)) (h a (omega arith) out)))
      ]

-- the first part of some moves, and the others
pub record Splits (whole part more : List MoveParts) : Type 0 where
  pub is : whole ≡ part ++ more

-- a piece, and the pieces of the squares behind it
pub next_piece : (f : ℕ → List MoveParts) {xs ys : List ℕ} {x : ℕ} → xs ≡ x ∷ ys → Splits (flat_map f xs) (f x) (flat_map f ys)
next_piece f is = record { is = ap (flat_map f) is }

-- the legal ones of all are added to the old list: they are in the list, or among those that are still to come
pub record Listed (p : PositionParts) (old list all rest : List MoveParts) : Type 0 where
  pub is : list ++ filter (is_legal p) rest ≡ old ++ filter (is_legal p) all

splits_legal : {p now : PositionParts} {whole part more : List MoveParts} → now ≡ p → Splits whole part more →
    filter (is_legal p) whole ≡ filter (is_legal now) part ++ filter (is_legal p) more
splits_legal {p} {now} {whole} {part} {more} same splits =
    ap (filter (is_legal p)) splits.is
    ∙ filter-append (is_legal p) part more
    ∙ ap (λ (x : PositionParts). filter (is_legal x) part ++ filter (is_legal p) more) (sym same)

-- so it is when the next part has been added; the position is known under two names
pub listed_next : {p now : PositionParts} {old list new all rest part more : List MoveParts} → now ≡ p → Listed p old list all rest → Splits rest part more →
    new ≡ list ++ filter (is_legal now) part → Listed p old new all more
listed_next {p} {now} {old} {list} {new} {all} {rest} {part} {more} same listed splits is = record {
  is = ap (λ xs. xs ++ filter (is_legal p) more) is
      ∙ append_assoc list (filter (is_legal now) part) (filter (is_legal p) more)
      ∙ ap (λ xs. list ++ xs) (sym (splits_legal same splits))
      ∙ listed.is;
}

-- and there is room for it where there is room for all
pub room_next : {p now : PositionParts} {old list all rest part more : List MoveParts} → now ≡ p → Listed p old list all rest → Splits rest part more →
    length old + length (filter (is_legal p) all) ≤ 432 → length list + length (filter (is_legal now) part) ≤ 432
room_next {p} {now} {old} {list} {all} {rest} {part} {more} same listed splits room =
    omega (
      arith,
      ap length listed.is,
      length-append list (filter (is_legal p) rest),
      length-append old (filter (is_legal p) all),
      ap length (splits_legal same splits),
      length-append (filter (is_legal now) part) (filter (is_legal p) more),
    )

-- in the end nothing is still to come
pub listed_end : {p : PositionParts} {old list all rest : List MoveParts} → Listed p old list all rest → rest ≡ [] → list ≡ old ++ filter (is_legal p) all
listed_end {p} {old} {list} {all} {rest} listed none = sym (append-nil list) ∙ ap (λ xs. list ++ filter (is_legal p) xs) (sym none) ∙ listed.is

-- The moves of the men that aren't pawns, counted kind by kind.
use Rattle.std.proofs.Common.{◌≡◌, ℕ, ◌+◌, ◌<◌, ◌≤◌, Bool, true, false, cond, not, ◌&&◌, Option, Some, None, filter, refl, sym, ap, ◌∙◌, arith}
use Rattle.std.specs.Ordering.{nat_cmp}
use Rattle.std.specs.FinSet.{FinSet, contains, difference, contains-difference}
use Rattle.std.proofs.lemmas.Cmp.{nat_cmp_total}
use Rattle.std.proofs.lemmas.Bool.{and_parts, true≢false}
use Rattle.chess_types.specs.declared.board.man.Colour.{Colour}
use Rattle.chess_types.specs.declared.board.man.Kind.{Kind}
use Rattle.chess_types.specs.declared.board.man.Kind.TheVariants.{Pawn, Knight, Bishop, Rook, Queen, King}
use Rattle.chess_types.specs.declared.board.man.Man.{Man}
use Rattle.chess_types.specs.board.Men.{is_king, is_man, is_of, is_pawn, same_colour, same_kind}
use Rattle.chess_types.specs.board.Squares.{squares}
use Rattle.chess_types.specs.board.Position.{PositionParts, IsSetup, man_on, cell_of}
use Rattle.chess_types.specs.steps.KeptSets.{Gathers}
use Rattle.chess_types.proofs.Sums.{total, total-agree, total-add, total-le}
use Rattle.chess_moves.specs.steps.PawnCounts.{AreFree}
use Rattle.chess_moves.specs.steps.Kinds.{Begun, is_piece, legal_from}
use Rattle.chess_moves.proofs.Bound.{legal_few}
use Rattle.chess_moves.proofs.Reach.{all_in}
use Rattle.chess_moves.proofs.CountSplit.{weight, kept_total, all_total}

pub piece_parts : (kind : Kind) → is_piece kind ≡ true → (is_pawn kind ≡ false) × (is_king kind ≡ false)
piece_parts Pawn piece = absurd (true≢false (sym piece))
piece_parts King piece = absurd (true≢false (sym piece))
piece_parts Knight piece = (refl, refl)
piece_parts Bishop piece = (refl, refl)
piece_parts Rook piece = (refl, refl)
piece_parts Queen piece = (refl, refl)

pub is_a_piece : (kind : Kind) → is_pawn kind ≡ false → is_king kind ≡ false → is_piece kind ≡ true
is_a_piece Pawn not_pawn not_king = absurd (true≢false not_pawn)
is_a_piece King not_pawn not_king = absurd (true≢false not_king)
is_a_piece Knight not_pawn not_king = refl
is_a_piece Bishop not_pawn not_king = refl
is_a_piece Rook not_pawn not_king = refl
is_a_piece Queen not_pawn not_king = refl

-- the legal moves from some squares are no more than all
pub from_few : (p : PositionParts) → IsSetup p → (test : ℕ → Bool) → legal_from p test ≤ 432
unfolding squares
from_few p setup test =
    let each : total (λ s. cond (test s) (weight p s) 0) 0 64 ≤ total (weight p) 0 64 =
    total-le (λ s. cond (test s) (weight p s) 0) (weight p) 0 64 (λ s low high. fewer (test s) (weight p s)) in
    omega (arith, each, kept_total p test 0 64, all_total p, legal_few p (setup.few p.side))
  where
    fewer : (b : Bool) (w : ℕ) → cond b w 0 ≤ w
    fewer true w = omega arith
    fewer false w = omega arith

-- none of the four, after each of them is left out
abbrev pub is_other : Bool → Bool → Bool → Bool → Bool → Bool
is_other all knight bishop rook queen = (((all && not knight) && not bishop) && not rook) && not queen

-- a man other than the free pawns is of one of the four kinds, or left
rows : (mine free : Bool) (kind : Kind) (w : ℕ) → (free ≡ true → is_pawn kind ≡ true) →
    cond (mine && not free) w 0
    ≡ cond (mine && same_kind kind Knight) w 0 + (cond (mine && same_kind kind Bishop) w 0 + (cond (mine && same_kind kind Rook) w 0 + (cond (mine && same_kind kind Queen) w 0
    + cond (is_other (mine && not free) (mine && same_kind kind Knight) (mine && same_kind kind Bishop) (mine && same_kind kind Rook) (mine && same_kind kind Queen)) w 0)))
rows false free other w h = omega arith
rows true false Pawn w h = omega arith
rows true false Knight w h = omega arith
rows true false Bishop w h = omega arith
rows true false Rook w h = omega arith
rows true false Queen w h = omega arith
rows true false King w h = omega arith
rows true true Pawn w h = omega arith
rows true true Knight w h = absurd (true≢false (sym (h refl)))
rows true true Bishop w h = absurd (true≢false (sym (h refl)))
rows true true Rook w h = absurd (true≢false (sym (h refl)))
rows true true Queen w h = absurd (true≢false (sym (h refl)))
rows true true King w h = absurd (true≢false (sym (h refl)))

pawn_here : (there : Option Man) (side : Colour) → there ≡ cell_of side Pawn → (man : Man) → there ≡ Some man → is_pawn man.kind ≡ true
pawn_here there side is man here = ap (λ (m : Option Man). kind_test m) (sym here ∙ is)
  where
    kind_test : Option Man → Bool
    kind_test None = false
    kind_test (Some man) = is_pawn man.kind

row : (there : Option Man) (side : Colour) (free : Bool) (w : ℕ) → (free ≡ true → there ≡ cell_of side Pawn) →
    cond (is_of side there && not free) w 0
    ≡ cond (is_man there side Knight) w 0 + (cond (is_man there side Bishop) w 0 + (cond (is_man there side Rook) w 0 + (cond (is_man there side Queen) w 0
    + cond (is_other (is_of side there && not free) (is_man there side Knight) (is_man there side Bishop) (is_man there side Rook) (is_man there side Queen)) w 0)))
row None side free w h = omega arith
row (Some man) side free w h = rows (same_colour man.colour side) free man.kind w (λ on. pawn_here (Some man) side (h on) man refl)

module _ (p : PositionParts) (own free knights bishops rooks queens rest : FinSet nat_cmp) (of_own : Gathers own (is_of p.side) (man_on p))
    (are_free : AreFree p (contains free)) (of_knights : Gathers knights (λ there. is_man there p.side Knight) (man_on p))
    (of_bishops : Gathers bishops (λ there. is_man there p.side Bishop) (man_on p)) (of_rooks : Gathers rooks (λ there. is_man there p.side Rook) (man_on p))
    (of_queens : Gathers queens (λ there. is_man there p.side Queen) (man_on p))
    (is : rest ≡ difference (difference (difference (difference (difference own free) knights) bishops) rooks) queens) where
  others_at : (s : ℕ) → contains (difference own free) s ≡ (is_of p.side (man_on p s) && not (contains free s))
  others_at s = contains-difference nat_cmp_total own free s ∙ ap (λ b. b && not (contains free s)) (of_own s)

  rest_at : (s : ℕ) →
      contains rest s
      ≡ is_other (is_of p.side (man_on p s) && not (contains free s)) (is_man (man_on p s) p.side Knight) (is_man (man_on p s) p.side Bishop) (is_man (man_on p s) p.side Rook) (is_man (man_on p s) p.side Queen)
  rest_at s =
      ap (λ r. contains r s) is
      ∙ contains-difference nat_cmp_total (difference (difference (difference (difference own free) knights) bishops) rooks) queens s
      ∙ (λ i. (contains-difference nat_cmp_total (difference (difference (difference own free) knights) bishops) rooks s i) && not (of_queens s i))
      ∙ (λ i. ((contains-difference nat_cmp_total (difference (difference own free) knights) bishops s i) && not (of_rooks s i)) && not (is_man (man_on p s) p.side Queen))
      ∙ (λ i. (((contains-difference nat_cmp_total (difference own free) knights s i) && not (of_bishops s i)) && not (is_man (man_on p s) p.side Rook)) && not (is_man (man_on p s) p.side Queen))
      ∙ (λ i. (((others_at s i && not (of_knights s i)) && not (is_man (man_on p s) p.side Bishop)) && not (is_man (man_on p s) p.side Rook)) && not (is_man (man_on p s) p.side Queen))

  at : (s : ℕ) → s < 64 →
      cond (contains (difference own free) s) (weight p s) 0
      ≡ cond (contains knights s) (weight p s) 0 + (cond (contains bishops s) (weight p s) 0 + (cond (contains rooks s) (weight p s) 0 + (cond (contains queens s) (weight p s) 0 + cond (contains rest s) (weight p s) 0)))
  at s hs =
      rw (others_at s, of_knights s, of_bishops s, of_rooks s, of_queens s, rest_at s)
      (row (man_on p s) p.side (contains free s) (weight p s) (λ on. are_free.here s hs on))

  by_kinds : legal_from p (contains (difference own free))
      ≡ legal_from p (contains knights) + (legal_from p (contains bishops) + (legal_from p (contains rooks) + (legal_from p (contains queens) + legal_from p (contains rest))))
  unfolding squares
  by_kinds =
      let w : FinSet nat_cmp → ℕ → ℕ = λ set s. cond (contains set s) (weight p s) 0 in
      kept_total p (contains (difference own free)) 0 64
      ∙ total-agree (w (difference own free)) (λ s. w knights s + (w bishops s + (w rooks s + (w queens s + w rest s)))) 0 64 (λ s low high. at s (omega arith))
      ∙ total-add (w knights) (λ s. w bishops s + (w rooks s + (w queens s + w rest s))) 0 64
      ∙ ap (λ n. total (w knights) 0 64 + n) (total-add (w bishops) (λ s. w rooks s + (w queens s + w rest s)) 0 64)
      ∙ ap (λ n. total (w knights) 0 64 + (total (w bishops) 0 64 + n)) (total-add (w rooks) (λ s. w queens s + w rest s) 0 64)
      ∙ ap (λ n. total (w knights) 0 64 + (total (w bishops) 0 64 + (total (w rooks) 0 64 + n))) (total-add (w queens) (w rest) 0 64)
      ∙ (λ i. sym (kept_total p (contains knights) 0 64) i + (sym (kept_total p (contains bishops) 0 64) i + (sym (kept_total p (contains rooks) 0 64) i
      + (sym (kept_total p (contains queens) 0 64) i + sym (kept_total p (contains rest) 0 64) i))))

  -- what the count goes on with
  pub begun_on : (count n : ℕ) → Begun p count (filter (contains (difference own free)) squares) →
      n ≡ count + (legal_from p (contains knights) + (legal_from p (contains bishops) + (legal_from p (contains rooks) + legal_from p (contains queens)))) →
      Begun p n (filter (contains rest) squares)
  unfolding squares
  begun_on count n begun counted = record {
    own = all_in (λ s. is_of p.side (man_on p s)) (contains rest) 0 64 (λ s within in_set. mine s (sym (rest_at s) ∙ in_set));
    left = omega (arith, counted, begun.left, by_kinds);
  }
    where
      mine : (s : ℕ) →
          is_other (is_of p.side (man_on p s) && not (contains free s)) (is_man (man_on p s) p.side Knight) (is_man (man_on p s) p.side Bishop) (is_man (man_on p s) p.side Rook) (is_man (man_on p s) p.side Queen) ≡ true →
          is_of p.side (man_on p s) ≡ true
      mine s h = (and_parts _ _ (and_parts _ _ (and_parts _ _ (and_parts _ _ (and_parts _ _ h).0).0).0).0).0

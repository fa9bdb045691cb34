-- There are at most 432 legal moves: 16 men with at most 27 moves each.
--   shape    where a man of a kind might go, whatever stands on the board
--   weight   how many moves with one origin and target there may be: a pawn's four promotions, else one
use Rattle.std.proofs.Common.{◌≡◌, ℕ, zero, suc, ◌+◌, ◌*◌, ◌<◌, ◌≤◌, ◌==◌, Bool, true, false, ◌&&◌, ◌||◌, List, [], ◌∷◌, length, filter, Option, Some, None, nat_le, refl, sym, ap, ◌∙◌, arith, inl, inr, length-append}
use Rattle.std.specs.List.{range_with_len, list_all}
use Rattle.std.proofs.lemmas.List.Sums.{length-filter, count_by-le-length}
use Rattle.std.proofs.lemmas.Bool.{and_parts, or_cases, or_left, or_right, cases_Bool, true≢false, leb-true}
use Rattle.chess_types.specs.declared.board.man.Colour.{Colour}
use Rattle.chess_types.specs.declared.board.man.Colour.TheVariants.{White, Black}
use Rattle.chess_types.specs.declared.board.man.Kind.{Kind}
use Rattle.chess_types.specs.declared.board.man.Kind.TheVariants.{Pawn, King}
use Rattle.chess_types.specs.declared.board.man.Man.{Man}
use Rattle.chess_types.specs.declared.board.position.Wing.TheVariants.{KingSide, QueenSide}
use Rattle.chess_types.specs.board.Board.{Men}
use Rattle.chess_types.specs.board.Squares.{squares}
use Rattle.chess_types.specs.board.Men.{same_colour, is_of, count_squares, men_of}
use Rattle.chess_types.specs.board.Attack.{leaps, slides, slides_to, attacks_as, is_clear}
use Rattle.chess_types.specs.board.MoveParts.{MoveParts}
use Rattle.chess_types.specs.board.Position.{PositionParts, man_on, cell_of}
use Rattle.chess_types.specs.board.Pseudo.{reached}
use Rattle.chess_types.specs.board.Legal.{is_legal, moves_between, moves_from, legal_moves}
use Rattle.chess_types.proofs.Runs.{list_all_at}
use Rattle.chess_types.proofs.Sums.{bit, total, total-le, sum_by-range}
use Rattle.chess_moves.specs.steps.Targets.{move_to, is_forward, is_candidate, is_pseudo_target, promotes, promotion_kinds, promotions_between}
use Rattle.chess_moves.proofs.Candidates.{go_reach, between_none, between_plain, between_promoted, from_other, own_cell}
use Rattle.chess_moves.proofs.Pieces.{pieces, pieces_first, from_pieces, all_pieces}

unfoldable shape : Kind → Colour → ℕ → ℕ → Bool
shape Pawn c a b = (leaps c Pawn a b || slides_to Pawn a b) || is_forward c 8 a b || is_forward c 16 a b
shape King c a b = (leaps c King a b || slides_to King a b) || reached c KingSide == b || reached c QueenSide == b
shape k c a b = leaps c k a b || slides_to k a b

abbrev weight : Kind → ℕ
weight Pawn = 4
weight _ = 1

-- at most 27 moves from a square
abbrev is_few : Kind → Colour → ℕ → Bool
is_few k c a = nat_le (total (λ b. weight k * bit (shape k c a b)) 0 64) 27

few_everywhere : (k : Kind) (c : Colour) → list_all (is_few k c) (range_with_len 0 64) ≡ true
unfolding total shape leaps slides slides_to
few_everywhere Pawn White = refl
few_everywhere Pawn Black = refl
few_everywhere King White = refl
few_everywhere King Black = refl
few_everywhere _ c = refl

shape_few : (k : Kind) (c : Colour) (a : ℕ) → a < 64 → total (λ b. weight k * bit (shape k c a b)) 0 64 ≤ 27
shape_few k c a h = leb-true _ 27 (list_all_at (is_few k c) 0 64 a (few_everywhere k c) (omega arith) h)

reach_is : (man : Man) (men : Men) (a b : ℕ) → attacks_as man men a b ≡ true → (leaps man.colour man.kind a b || slides_to man.kind a b) ≡ true
unfolding attacks_as
reach_is man men a b h =
    elim (or_cases (leaps man.colour man.kind a b) (slides_to man.kind a b && is_clear men a b) h) [
      | inl x ↦ or_left _ _ x
      | inr x ↦ or_right (leaps man.colour man.kind a b) (slides_to man.kind a b) (and_parts _ _ x).0
    ]

more_reach : (a a' b c : Bool) → (a ≡ true → a' ≡ true) → (a || b || c) ≡ true → (a' || b || c) ≡ true
more_reach true a' b c h e = rw (h refl) refl
more_reach false a' true c h e = or_left (a' || true) c (or_right a' true refl)
more_reach false a' false c h e = or_right (a' || false) c e

-- a man goes only where its shape allows
reach_shape : (p : PositionParts) (kind : Kind) (a b : ℕ) → is_candidate p kind a b ≡ true → shape kind p.side a b ≡ true
unfolding is_candidate shape
reach_shape p Pawn a b h = more_reach _ _ (is_forward p.side 8 a b) (is_forward p.side 16 a b) (reach_is (record { colour = p.side; kind = Pawn }) (man_on p) a b) h
reach_shape p King a b h =
    more_reach _ _ (reached p.side KingSide == b) (reached p.side QueenSide == b) (reach_is (record { colour = p.side; kind = King }) (man_on p) a b) h
reach_shape p k a b h = reach_is (record { colour = p.side; kind = k }) (man_on p) a b h

filter_few : (test : MoveParts → Bool) (xs : List MoveParts) → length (filter test xs) ≤ length xs
filter_few test xs = omega (arith, length-filter test xs, count_by-le-length test xs)

-- there is always at least the move that names nothing
weight_one : (kind : Kind) → 1 ≤ weight kind
weight_one Pawn = omega arith
weight_one _ = omega arith

-- a man that promotes is a pawn
promotes_weight : (side : Colour) (kind : Kind) (b : ℕ) → promotes side kind b ≡ true → weight kind ≡ 4
promotes_weight side Pawn b h = refl
promotes_weight side _ b h = absurd (true≢false (sym h))

promotions_size : (a b : ℕ) → length (promotions_between a b) ≡ 4
unfolding promotion_kinds
promotions_size a b = refl

module _ (p : PositionParts) (kind : Kind) (a b : ℕ) (here : man_on p a ≡ cell_of p.side kind) where
  go_few : length (filter (is_legal p) (moves_between a b)) ≤ weight kind
  go_few =
      elim (cases_Bool (promotes p.side kind b)) [
        | inl last ↦
            let w : weight kind ≡ 4 = promotes_weight p.side kind b last in
            omega (arith, ap length (between_promoted p kind a b here last), filter_few (is_legal p) (promotions_between a b), promotions_size a b)
        | inr stays ↦
            let one : length (move_to a b None ∷ []) ≡ 1 = refl in
            omega (arith, ap length (between_plain p kind a b here stays), filter_few (is_legal p) (move_to a b None ∷ []), weight_one kind)
      ]

  between_few : length (filter (is_legal p) (moves_between a b)) ≤ weight kind * bit (shape kind p.side a b)
  between_few =
      elim (cases_Bool (is_pseudo_target p kind a b)) [
        | inl go ↦
            let shaped : shape kind p.side a b ≡ true = reach_shape p kind a b (go_reach p kind a b go) in
            let whole : weight kind * bit (shape kind p.side a b) ≡ weight kind = ap (λ x. weight kind * bit x) shaped ∙ omega arith in
            omega (arith, go_few)
        | inr stay ↦
            let no_move : length (filter (is_legal p) (moves_between a b)) ≡ 0 = ap length (between_none p kind a b here stay) in
            omega arith
      ]

-- the size of what passes is the sum of the sizes
size_total : (test : MoveParts → Bool) (f : ℕ → List MoveParts) (a n : ℕ) → length (pieces test f (range_with_len a n)) ≡ total (λ x. length (filter test (f x))) a n
unfolding total
size_total test f a zero = refl
size_total test f a (suc n) =
    ap length (pieces_first test f a (range_with_len (a + 1) n))
    ∙ length-append (filter test (f a)) (pieces test f (range_with_len (a + 1) n))
    ∙ ap (λ k. length (filter test (f a)) + k) (size_total test f (a + 1) n)

from_size : (test : MoveParts → Bool) (a : ℕ) → length (filter test (moves_from a)) ≡ total (λ b. length (filter test (moves_between a b))) 0 64
unfolding squares
from_size test a = ap length (from_pieces test a) ∙ size_total test (moves_between a) 0 64

all_size : (p : PositionParts) → length (legal_moves p) ≡ total (λ a. length (filter (is_legal p) (moves_from a))) 0 64
unfolding legal_moves squares
all_size p = ap length (all_pieces (is_legal p)) ∙ size_total (is_legal p) moves_from 0 64

own_few : (p : PositionParts) (a : ℕ) (kind : Kind) → a < 64 → man_on p a ≡ cell_of p.side kind → length (filter (is_legal p) (moves_from a)) ≤ 27
own_few p a kind inside here =
    let each = total-le (λ b. length (filter (is_legal p) (moves_between a b))) (λ b. weight kind * bit (shape kind p.side a b)) 0 64 (λ b low high.
    between_few p kind a b here) in
    omega (arith, shape_few kind p.side a inside, from_size (is_legal p) a)

from_few : (p : PositionParts) (a : ℕ) (o : Option Man) → a < 64 → man_on p a ≡ o → length (filter (is_legal p) (moves_from a)) ≤ 27 * bit (is_of p.side o)
from_few p a None inside here =
    let none : length (filter (is_legal p) (moves_from a)) ≡ 0 = ap length (from_other p a (ap (is_of p.side) here)) in
    omega arith
from_few p a (Some man) inside here =
    elim (cases_Bool (same_colour man.colour p.side)) [
      | inl own ↦
          let le = own_few p a man.kind inside (here ∙ own_cell p.side man own) in
          let one : 27 * bit (same_colour man.colour p.side) ≡ 27 = ap (λ x. 27 * bit x) own in
          omega arith
      | inr other ↦
          let none : length (filter (is_legal p) (moves_from a)) ≡ 0 = ap length (from_other p a (ap (is_of p.side) here ∙ other)) in
          omega arith
    ]

total_times : (f : ℕ → ℕ) (a n : ℕ) → total (λ x. 27 * f x) a n ≡ 27 * total f a n
unfolding total
total_times f a zero = refl
total_times f a (suc n) = omega (arith, total_times f (a + 1) n)

men_total : (p : PositionParts) → men_of p.placement p.side ≡ total (λ a. bit (is_of p.side (man_on p a))) 0 64
unfolding count_squares squares
men_total p = sum_by-range (λ s. bit (is_of p.side (man_on p s))) 0 64

-- at most 432 legal moves
pub legal_few : (p : PositionParts) → men_of p.placement p.side ≤ 16 → length (legal_moves p) ≤ 432
legal_few p men =
    let each = total-le (λ a. length (filter (is_legal p) (moves_from a))) (λ a. 27 * bit (is_of p.side (man_on p a))) 0 64 (λ a low high. from_few p a (man_on p a) high refl) in
    omega (arith, all_size p, total_times (λ a. bit (is_of p.side (man_on p a))) 0 64, men_total p)

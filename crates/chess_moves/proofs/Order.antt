-- The list of legal moves has no move twice: their places among all moves rise.
--   place   a move's place: by origin, then by target, then by promotion
--   Rises   the places of the moves rise, from `low` on, and stay below `high`
use Rattle.std.proofs.Common.{◌≡◌, ◌≢◌, ℕ, zero, suc, ◌+◌, ◌*◌, ◌<◌, ◌≤◌, Bool, List, [], ◌∷◌, ◌++◌, length, filter, get_or, Option, Some, None, ap, subst, arith, inl, inr}
use Rattle.std.specs.List.{range_with_len, flat_map}
use Rattle.std.proofs.lemmas.Bool.{cases_Bool}
use Rattle.chess_types.specs.declared.board.man.Kind.{Kind}
use Rattle.chess_types.specs.declared.board.man.Kind.TheVariants.{Pawn, Knight, Bishop, Rook, Queen, King}
use Rattle.chess_types.specs.board.Squares.{squares}
use Rattle.chess_types.specs.board.MoveParts.{MoveParts}
use Rattle.chess_types.specs.board.Position.{PositionParts}
use Rattle.chess_types.specs.board.Legal.{is_legal, promotions, moves_between, moves_from, all_moves, legal_moves}

abbrev promotion_number : Option Kind → ℕ
promotion_number None = 0
promotion_number (Some Queen) = 1
promotion_number (Some Rook) = 2
promotion_number (Some Bishop) = 3
promotion_number (Some Knight) = 4
promotion_number (Some Pawn) = 5
promotion_number (Some King) = 6

abbrev place : MoveParts → ℕ
place m = 320 * m.from + (5 * m.to + promotion_number m.promo)

abbrev Rises : ℕ → List MoveParts → ℕ → Type 0
Rises low [] high = low ≤ high
Rises low (m ∷ ms) high = (low ≤ place m) × Rises (place m + 1) ms high

rises_lower : (low mid : ℕ) (ms : List MoveParts) (high : ℕ) → low ≤ mid → Rises mid ms high → Rises low ms high
rises_lower low mid [] high e h = omega arith
rises_lower low mid (m ∷ ms) high e h = (omega (arith, h.0), h.1)

rises_append : (low : ℕ) (ms : List MoveParts) (mid : ℕ) (ns : List MoveParts) (high : ℕ) → Rises low ms mid → Rises mid ns high → Rises low (ms ++ ns) high
rises_append low [] mid ns high h g = rises_lower low mid ns high h g
rises_append low (m ∷ ms) mid ns high h g = (h.0, rises_append (place m + 1) ms mid ns high h.1 g)

rises_filter : (test : MoveParts → Bool) (low : ℕ) (ms : List MoveParts) (high : ℕ) → Rises low ms high → Rises low (filter test ms) high
rises_filter test low [] high h = h
rises_filter test low (m ∷ ms) high h =
    let rest : Rises (place m + 1) (filter test ms) high = rises_filter test (place m + 1) ms high h.1 in
    elim (cases_Bool (test m)) [
      | inl kept ↦ rw kept (h.0, rest)
      | inr out ↦ rw out (rises_lower low (place m + 1) (filter test ms) high (omega (arith, h.0)) rest)
    ]

-- pieces, each from where the one before it ends
rises_pieces : (f : ℕ → List MoveParts) (low : ℕ → ℕ) (a n : ℕ) → ((x : ℕ) → Rises (low x) (f x) (low (x + 1))) →
    Rises (low a) (flat_map f (range_with_len a n)) (low (a + n))
rises_pieces f low a zero h = let e : low a ≡ low (a + 0) = ap low (omega arith) in omega arith
rises_pieces f low a (suc n) h =
    let e : low (a + 1 + n) ≡ low (a + suc n) = ap low (omega arith) in
    subst (λ (high : ℕ). Rises (low a) (f a ++ flat_map f (range_with_len (a + 1) n)) high) e
    (rises_append (low a) (f a) (low (a + 1)) (flat_map f (range_with_len (a + 1) n)) (low (a + 1 + n)) (h a) (rises_pieces f low (a + 1) n h))

between_rises : (a b : ℕ) → Rises (320 * a + 5 * b) (moves_between a b) (320 * a + 5 * (b + 1))
unfolding promotions
between_rises a b = (omega arith, (omega arith, (omega arith, (omega arith, (omega arith, omega arith)))))

from_rises : (a : ℕ) → Rises (320 * a) (moves_from a) (320 * (a + 1))
unfolding moves_from squares
from_rises a =
    let low : 320 * a + 5 * 0 ≡ 320 * a = omega arith in
    let high : 320 * a + 5 * (0 + 64) ≡ 320 * (a + 1) = omega arith in
    subst (λ (x : ℕ). Rises x (flat_map (moves_between a) (range_with_len 0 64)) (320 * (a + 1))) low
    (subst (λ (x : ℕ). Rises (320 * a + 5 * 0) (flat_map (moves_between a) (range_with_len 0 64)) x) high
    (rises_pieces (moves_between a) (λ b. 320 * a + 5 * b) 0 64 (between_rises a)))

legal_rises : (p : PositionParts) → Rises 0 (legal_moves p) 20480
unfolding legal_moves all_moves squares
legal_rises p = rises_filter (is_legal p) 0 (flat_map moves_from (range_with_len 0 64)) 20480 (rises_pieces moves_from (λ a. 320 * a) 0 64 from_rises)

rises_at : (low : ℕ) (ms : List MoveParts) (high k : ℕ) (d : MoveParts) → Rises low ms high → k < length ms → low ≤ place (get_or ms k d)
rises_at low [] high k d h within = absurd (omega arith)
rises_at low (m ∷ ms) high zero d h within = h.0
rises_at low (m ∷ ms) high (suc k) d h within = omega (arith, h.0, rises_at (place m + 1) ms high k d h.1 (omega arith))

rises_apart : (low : ℕ) (ms : List MoveParts) (high i j : ℕ) (d : MoveParts) → Rises low ms high → i < j → j < length ms →
    place (get_or ms i d) < place (get_or ms j d)
rises_apart low [] high i j d h order within = absurd (omega arith)
rises_apart low (m ∷ ms) high i zero d h order within = absurd (omega arith)
rises_apart low (m ∷ ms) high zero (suc j) d h order within = omega (arith, rises_at (place m + 1) ms high j d h.1 (omega arith))
rises_apart low (m ∷ ms) high (suc i) (suc j) d h order within = rises_apart (place m + 1) ms high i j d h.1 (omega arith) (omega arith)

-- no move stands in the list twice
pub moves_apart : (p : PositionParts) (i j : ℕ) (d : MoveParts) → i < j → j < length (legal_moves p) → get_or (legal_moves p) i d ≢ get_or (legal_moves p) j d
moves_apart p i j d order within = λ same. let e = ap place same in omega (arith, rises_apart 0 (legal_moves p) 20480 i j d (legal_rises p) order within)

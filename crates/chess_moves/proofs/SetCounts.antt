-- How many legal moves there are, by the sets of the squares to which they go.
use Rattle.std.proofs.Common.{◌≡◌, ℕ, zero, suc, ◌+◌, ◌*◌, ◌<◌, ◌≤◌, ◌==◌, Bool, true, false, not, ◌&&◌, List, [], ◌∷◌, length, filter, refl, sym, ap, ◌∙◌, arith, inl, inr, length-append}
use Rattle.std.specs.Prelude.{count_by, nat_lt}
use Rattle.std.specs.List.{flat_map, range_with_len}
use Rattle.std.specs.Ordering.{nat_cmp}
use Rattle.std.specs.FinSet.{FinSet, contains}
use Rattle.std.proofs.Math.Bool.{and-false}
use Rattle.std.proofs.lemmas.Bool.{cases_Bool, lt-ltb}
use Rattle.std.proofs.lemmas.Bool.Decides.{nat_tests}
use Rattle.chess_types.specs.declared.board.man.Kind.{Kind}
use Rattle.chess_types.specs.declared.board.man.Kind.TheVariants.{Pawn}
use Rattle.chess_types.specs.board.Men.{is_pawn}
use Rattle.chess_types.specs.board.Position.{PositionParts, IsSetup, man_on, cell_of}
use Rattle.chess_types.specs.board.Pseudo.{last_rank}
use Rattle.chess_types.specs.board.Squares.{rank_of, squares}
use Rattle.chess_types.specs.board.Legal.{is_legal, moves_between, moves_from}
use Rattle.chess_types.specs.board.Outcome.{is_without}
use Rattle.chess_types.specs.board.MoveParts.{MoveParts}
use Rattle.chess_types.proofs.Sums.{bit, total, total-agree, total-zero, sum_by-range}
use Rattle.chess_attack.proofs.Lifted.{OnlyKing}
use Rattle.chess_moves.specs.steps.PawnCounts.{size, pawn_moves_to}
use Rattle.chess_moves.specs.steps.Targets.{is_legal_target, promotes, promotion_kinds, moves_named}
use Rattle.chess_moves.proofs.LegalTargets.{lands_all, lands_none}
use Rattle.chess_moves.proofs.Pieces.{pieces, pieces_first, from_pieces}

pub pieces_total :
    (test : MoveParts → Bool) (f : ℕ → List MoveParts) (w : ℕ → ℕ) (a n : ℕ) → ((x : ℕ) → a ≤ x → x < a + n → length (filter test (f x)) ≡ w x) →
    length (pieces test f (range_with_len a n)) ≡ total w a n
unfolding total
pieces_total test f w a zero h = refl
pieces_total test f w a (suc n) h =
    let here : length (filter test (f a)) ≡ w a = h a (omega arith) (omega arith) in
    let rest : length (pieces test f (range_with_len (a + 1) n)) ≡ total w (a + 1) n =
    pieces_total test f w (a + 1) n (λ x low high. h x (omega arith) (omega arith)) in
    ap length (pieces_first test f a (range_with_len (a + 1) n)) ∙ length-append (filter test (f a)) (pieces test f (range_with_len (a + 1) n))
    ∙ (λ i. here i + rest i)

total_three : (f g : ℕ → ℕ) (a n : ℕ) → total (λ s. f s + 3 * g s) a n ≡ total f a n + 3 * total g a n
unfolding total
total_three f g a zero = refl
total_three f g a (suc n) = omega (arith, total_three f g (a + 1) n)

named_length : (p : PositionParts) (kind : Kind) (a b : ℕ) → length (moves_named p.side kind a b) ≡ 1 + 3 * bit (promotes p.side kind b)
unfolding promotion_kinds
named_length p kind a b =
    elim (cases_Bool (promotes p.side kind b)) [
      | inl last ↦ rw last refl
      | inr stays ↦ rw stays refl
    ]

-- a set has as many squares as it holds on the board
pub counted_total : (set : FinSet nat_cmp) (n : ℕ) → n ≡ count_by (contains set) squares → n ≡ total (λ s. bit (contains set s)) 0 64
unfolding squares
counted_total set n is = is ∙ sum_by-range (λ s. bit (contains set s)) 0 64

pub size_total : (test : ℕ → Bool) → size test ≡ total (λ s. bit (test s)) 0 64
unfolding squares
size_total test = sum_by-range (λ s. bit (test s)) 0 64

module _ (p : PositionParts) (setup : IsSetup p) (kind : Kind) (from k : ℕ) (hf : from < 64) (here : man_on p from ≡ cell_of p.side kind)
    (king : OnlyKing (man_on p) p.side k) (set : FinSet nat_cmp) (has : (to : ℕ) → to < 64 → contains set to ≡ is_legal_target p kind from to) where
  between_count : (to : ℕ) → to < 64 → length (filter (is_legal p) (moves_between from to)) ≡ bit (contains set to) + 3 * bit (contains set to && promotes p.side kind to)
  between_count to ht =
      elim (cases_Bool (contains set to)) [
        | inl on ↦
            ap length (lands_all p setup kind from to k hf ht here king (sym (has to ht) ∙ on)) ∙ named_length p kind from to
            ∙ rw on refl
        | inr off ↦ ap length (lands_none p setup kind from to k hf ht here king (sym (has to ht) ∙ off)) ∙ rw off refl
      ]

  pub from_count :
      length (filter (is_legal p) (moves_from from))
      ≡ total (λ s. bit (contains set s)) 0 64 + 3 * total (λ s. bit (contains set s && promotes p.side kind s)) 0 64
  unfolding squares
  from_count =
      ap length (from_pieces (is_legal p) from)
      ∙ pieces_total (is_legal p) (moves_between from) (λ s. bit (contains set s) + 3 * bit (contains set s && promotes p.side kind s)) 0 64
      (λ x low high. between_count x (omega arith))
      ∙ total_three (λ s. bit (contains set s)) (λ s. bit (contains set s && promotes p.side kind s)) 0 64

  -- a man other than a pawn has a move for each square
  pub plain_count : (n : ℕ) → is_pawn kind ≡ false → n ≡ count_by (contains set) squares → n ≡ length (filter (is_legal p) (moves_from from))
  plain_count n not_pawn counted =
      let none : total (λ s. bit (contains set s && promotes p.side kind s)) 0 64 ≡ 0 =
      total-zero (λ s. bit (contains set s && promotes p.side kind s)) 0 64 (λ s. rw not_pawn (ap bit (and-false (contains set s)))) in
      omega (arith, counted_total set n counted, from_count)

  -- a pawn has three more for each on its last rank
  pub pawn_count : (n : ℕ) → is_pawn kind ≡ true → n ≡ pawn_moves_to p.side (contains set) → n ≡ length (filter (is_legal p) (moves_from from))
  pawn_count n a_pawn counted =
      let same : total (λ s. bit (contains set s && promotes p.side Pawn s)) 0 64 ≡ total (λ s. bit (contains set s && promotes p.side kind s)) 0 64 =
      total-agree (λ s. bit (contains set s && promotes p.side Pawn s)) (λ s. bit (contains set s && promotes p.side kind s)) 0 64 (λ s low high.
      ap (λ b. bit (contains set s && (b && rank_of s == last_rank p.side))) (sym a_pawn)) in
      omega (arith, counted, size_total (contains set), size_total (λ s. contains set s && promotes p.side Pawn s), from_count, same)

-- the moves from one square more
pub count_split :
    (p now : PositionParts) (x : ℕ) (xs ys : List ℕ) → now ≡ p → xs ≡ x ∷ ys →
    length (filter (is_legal p) (flat_map moves_from xs)) ≡ length (filter (is_legal now) (moves_from x)) + length (filter (is_legal p) (flat_map moves_from ys))
count_split p now x xs ys same is =
    ap (λ zs. length (filter (is_legal p) (flat_map moves_from zs))) is
    ∙ ap length (pieces_first (is_legal p) moves_from x ys)
    ∙ length-append (filter (is_legal p) (moves_from x)) (filter (is_legal p) (flat_map moves_from ys))
    ∙ ap (λ (q : PositionParts). length (filter (is_legal q) (moves_from x)) + length (filter (is_legal p) (flat_map moves_from ys))) (sym same)

pub some_left : (n m k : ℕ) → 0 < n → k ≡ n + m → true ≡ nat_lt 0 k
some_left n m k h e = grind (arith, nat_tests)

-- a list without a move has none
pub some_move : (ms : List MoveParts) → is_without ms ≡ not (nat_lt 0 (length ms))
some_move [] = refl
some_move (m ∷ ms) = sym (ap not (lt-ltb 0 (length (m ∷ ms)) (omega arith)))

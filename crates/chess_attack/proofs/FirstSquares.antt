-- The counts of the men on the first squares, which grow by one man's own attacks at a time.
use Rattle.std.proofs.Common.{◌≡◌, ℕ, suc, ◌+◌, ◌<◌, ◌≤◌, ◌&&◌, Some, None, refl, sym, ap, ◌∙◌, arith, add-one}
use Rattle.chess_types.specs.declared.board.man.Colour.{Colour}
use Rattle.chess_types.specs.declared.board.man.Man.{Man}
use Rattle.chess_types.specs.board.Board.{Board, Men, man_at}
use Rattle.chess_types.specs.board.Men.{same_colour}
use Rattle.chess_types.specs.board.Attack.{attacks_as, attacks_for}
use Rattle.chess_types.proofs.Sums.{bit_small, total, total-none, total-more, total-small}
use Rattle.chess_attack.specs.declared.change.Change.TheVariants.{Raise}
use Rattle.chess_attack.specs.KeptCounts.{KeptCounts, AreZero, AreCounts, count_in}
use Rattle.chess_attack.specs.steps.Marks.{Moves, HasRoomFor, own}
use Rattle.chess_attack.proofs.Counting.{weight, count_is_total}

-- how many men on the first squares attack s
abbrev pub count_below : Men → ℕ → Colour → ℕ → ℕ
count_below man_on n c s = total (weight man_on c s) 0 n

-- each count is that of the men on the first squares
pub record AreCountsBelow (kept : KeptCounts) (man_on : Men) (n : ℕ) : Type 0 where
  pub each : (c : Colour) (s : ℕ) → s < 64 → count_in kept c s ≡ count_below man_on n c s

pub below_start : (kept : KeptCounts) (man_on : Men) → AreZero kept → AreCountsBelow kept man_on 0
below_start kept man_on zero' = record { each = λ c s hs. omega (arith, zero' c s hs, total-none (weight man_on c s) 0) }

weight_small : (man_on : Men) (c : Colour) (s a : ℕ) → weight man_on c s a ≤ 1
weight_small man_on c s a = bit_small (attacks_for (man_on a) c man_on a s)

-- there is room for one man's attacks more
pub below_room :
    (kept : KeptCounts) (man_on : Men) (n : ℕ) (man : Man) → n < 64 → AreCountsBelow kept man_on n → HasRoomFor Raise kept (own man man_on n)
below_room kept man_on n man lt below c s hs =
    omega (
      arith,
      below.each c s hs,
      total-small (weight man_on c s) 0 n (weight_small man_on c s),
      bit_small (same_colour man.colour c && attacks_as man man_on n s),
    )

count_below-more : (man_on : Men) (n : ℕ) (c : Colour) (s : ℕ) → count_below man_on (n + 1) c s ≡ count_below man_on n c s + weight man_on c s n
count_below-more man_on n c s =
    let more : total (weight man_on c s) 0 (suc n) ≡ total (weight man_on c s) 0 n + weight man_on c s (0 + n) = total-more (weight man_on c s) 0 n in
    let next : n + 1 ≡ suc n = add-one n in
    let here : weight man_on c s (0 + n) ≡ weight man_on c s n = ap (weight man_on c s) (omega arith) in
    ap (total (weight man_on c s) 0) next ∙ more ∙ ap (λ x. total (weight man_on c s) 0 n + x) here

-- one square more, with a man
pub below_man :
    (old new : KeptCounts) (man_on : Men) (n : ℕ) (man : Man) → AreCountsBelow old man_on n → man_on n ≡ Some man →
    Moves Raise old new (own man man_on n) → AreCountsBelow new man_on (n + 1)
below_man old new man_on n man below here more = record {
  each = λ c s hs.
      let e : weight man_on c s n ≡ own man man_on n c s = rw here refl in
      omega (arith, below.each c s hs, more c s hs, count_below-more man_on n c s);
}

-- one square more, empty
pub below_none :
    (kept : KeptCounts) (man_on : Men) (n : ℕ) → AreCountsBelow kept man_on n → man_on n ≡ None → AreCountsBelow kept man_on (n + 1)
below_none kept man_on n below here = record {
  each = λ c s hs.
      let e : weight man_on c s n ≡ 0 = rw here refl in
      omega (arith, below.each c s hs, count_below-more man_on n c s);
}

-- after the whole board
pub below_all : (kept : KeptCounts) (board : Board) → AreCountsBelow kept (man_at board) 64 → AreCounts kept board
below_all kept board below = record { each = λ c s hs. below.each c s hs ∙ sym (count_is_total (man_at board) c s) }

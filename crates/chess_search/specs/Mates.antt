-- Mates that are forced, and what a search says of them (FIDE Laws 1.4.1, 5.1.1).
--   is_mated_by    the side to move is mated, or each of its moves leads to a line that the other side wins
--   mates_in       the side to move mates with its n-th move at the latest, whatever the other side plays
--   is_mated_in    it is mated by the other side's n-th move at the latest, whatever it plays; 0 where it is mated
--   MateIsReported, MatedIsReported   where mate with the n-th move is forced, and with no earlier one, the score is `mate N` or `mate -N`
--   MateIsForced, MatedIsForced       where the score is a mate, it is forced with just that move
-- Only moves within the depth of the search count, and a drawn line is not searched further (`counts_drawn`).
use Rattle.std.specs.Prelude.{◌≡◌, ℕ, zero, suc, ◌+◌, ◌-◌, ◌≤◌, Bool, true, false, not, ◌&&◌, if◌then◌else◌, ◌++◌, pos, neg_ℤ, ◌≤ℤ◌, codes}
use Rattle.std.specs.List.{list_any, list_all}
use Rattle.std.specs.Fmt.{signed_decimal}
use Rattle.chess_types.specs.board.Attack.{in_check}
use Rattle.chess_types.specs.board.Position.{IsSetup, man_on}
use Rattle.chess_types.specs.board.Legal.{legal_moves}
use Rattle.chess_types.specs.board.Lines.{Line, last, extended}
use Rattle.chess_types.specs.board.Outcome.{is_without}
use Rattle.chess_search.specs.Scores.{score_text}
use Rattle.chess_search.specs.Value.{counts_drawn, value}

-- mated, or every legal move lets the other side win so
abbrev pub is_mated_by : Bool → (Line → Bool) → Line → Bool
is_mated_by claims wins line =
    if is_without (legal_moves (last line))
    then in_check (man_on (last line)) (last line).side
    else (not (counts_drawn claims line) && list_all (λ m. wins (extended line m)) (legal_moves (last line)))

-- the side to move mates with its n-th move at the latest
abbrev pub mates_in : Bool → ℕ → Line → Bool
mates_in claims zero line = false
mates_in claims (suc n) line =
    not (counts_drawn claims line) && list_any (λ m. is_mated_by claims (mates_in claims n) (extended line m)) (legal_moves (last line))

-- the side to move is mated by the other side's n-th move at the latest
abbrev pub is_mated_in : Bool → ℕ → Line → Bool
is_mated_in claims n line = is_mated_by claims (mates_in claims n) line

-- the side to move mates with its n-th move, and can't force it earlier
abbrev pub IsMateIn : Bool → ℕ → Line → Type 0
IsMateIn claims n line = (mates_in claims n line ≡ true) × (mates_in claims (n - 1) line ≡ false)

-- the n-th move of the side to move is ply 2n - 1
abbrev pub MateIsReported : Type 0
MateIsReported =
    (claims : Bool) (depth n : ℕ) (line : Line) → IsSetup (last line) → depth ≤ 16 → 1 ≤ n → n + n ≤ depth + 1 → IsMateIn claims n line →
    score_text (value claims depth line 0) ≡ codes "mate " ++ signed_decimal (pos n)

-- `mate N` is reported only where it is forced, with no earlier one
abbrev pub MateIsForced : Type 0
MateIsForced =
    (claims : Bool) (depth : ℕ) (line : Line) → IsSetup (last line) → depth ≤ 16 → pos 29984 ≤ℤ value claims depth line 0 →
    (n : ℕ) × (1 ≤ n) × (n + n ≤ depth + 1) × IsMateIn claims n line

-- the side to move is mated by the other side's n-th move, and by no earlier one
abbrev pub IsMatedIn : Bool → ℕ → Line → Type 0
IsMatedIn claims n line = (is_mated_in claims n line ≡ true) × (1 ≤ n → is_mated_in claims (n - 1) line ≡ false)

-- the n-th move of the other side is ply 2n
abbrev pub MatedIsReported : Type 0
MatedIsReported =
    (claims : Bool) (depth n : ℕ) (line : Line) → IsSetup (last line) → depth ≤ 16 → 1 ≤ n → n + n ≤ depth → IsMatedIn claims n line →
    score_text (value claims depth line 0) ≡ codes "mate -" ++ signed_decimal (pos n)

-- `mate -N` is reported only where it is forced, with no earlier one
abbrev pub MatedIsForced : Type 0
MatedIsForced =
    (claims : Bool) (depth : ℕ) (line : Line) → IsSetup (last line) → depth ≤ 16 → value claims depth line 0 ≤ℤ neg_ℤ (pos 29984) →
    (n : ℕ) × (n + n ≤ depth) × IsMatedIn claims n line

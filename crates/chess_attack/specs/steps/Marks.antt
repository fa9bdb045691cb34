-- How the kept counts change, and by how much for the attacks of one man.
--   Moved, HasRoom       a number rises or falls by an amount, or may
--   Moves, HasRoomFor    each count does
--   one_if, one_at       an amount of 1 or 0
--   on_set               1 on each square of a set
--   reaches, swept       the squares of a half up to and with the first man
--   slide_on             the attacks of a sliding man along a half; slide_along, along an axis; slide, along all four
--   leap                 the attacks of a knight, a king or a pawn
--   own                  the attacks of any man
use Rattle.std.specs.Prelude.{ℕ, ◌≡◌, ◌+◌, ◌<◌, ◌≤◌, ◌==◌, Bool, ◌&&◌, cond}
use Rattle.std.specs.Ordering.{nat_cmp}
use Rattle.std.specs.FinSet.{FinSet, contains}
use Rattle.chess_types.specs.declared.board.axis.Axis.{Axis}
use Rattle.chess_types.specs.declared.board.axis.Axis.TheVariants.{Rank, File, Rising, Falling}
use Rattle.chess_types.specs.declared.board.man.Colour.{Colour}
use Rattle.chess_types.specs.declared.board.man.Man.{Man}
use Rattle.chess_types.specs.board.Board.{Men}
use Rattle.chess_types.specs.board.Men.{same_colour}
use Rattle.chess_types.specs.board.Attack.{is_clear, leaps, slides, attacks_as}
use Rattle.chess_attack.specs.declared.change.Change.{Change}
use Rattle.chess_attack.specs.declared.change.Change.TheVariants.{Raise, Lower}
use Rattle.chess_attack.specs.declared.way.Way.{Way}
use Rattle.chess_attack.specs.declared.way.Way.TheVariants.{Up, Down}
use Rattle.chess_attack.specs.KeptCounts.{KeptCounts, count_in}
use Rattle.chess_attack.specs.steps.Halves.{on_half}

-- it rises, or falls, by the amount
abbrev pub Moved : Change → ℕ → ℕ → ℕ → Type 0
Moved Raise old by new = new ≡ old + by
Moved Lower old by new = new + by ≡ old

-- it can, and still fit a byte
abbrev pub HasRoom : Change → ℕ → ℕ → Type 0
HasRoom Raise old by = old + by ≤ 255
HasRoom Lower old by = by ≤ old

-- each count rises, or falls, by its amount
abbrev pub Moves : Change → KeptCounts → KeptCounts → (Colour → ℕ → ℕ) → Type 0
Moves change old new amount = (c : Colour) (s : ℕ) → s < 64 → Moved change (count_in old c s) (amount c s) (count_in new c s)

-- each count can
abbrev pub HasRoomFor : Change → KeptCounts → (Colour → ℕ → ℕ) → Type 0
HasRoomFor change old amount = (c : Colour) (s : ℕ) → s < 64 → HasRoom change (count_in old c s) (amount c s)

-- 1 for that colour where the test holds, else 0
abbrev pub one_if : Colour → Colour → Bool → ℕ
one_if colour c test = cond (same_colour colour c && test) 1 0

-- 1 for that colour on that square, else 0
abbrev pub one_at : Colour → ℕ → Colour → ℕ → ℕ
one_at colour square c s = one_if colour c (square == s)

-- 1 for that colour on each square of the set, else 0
abbrev pub on_set : Colour → FinSet nat_cmp → Colour → ℕ → ℕ
on_set colour set c s = one_if colour c (contains set s)

-- s is on that half, with no man before it
abbrev pub reaches : Men → Axis → Way → ℕ → ℕ → Bool
reaches man_on axis way at s = on_half axis way at s && is_clear man_on at s

-- 1 for that colour on each square of the half up to and with the first man
abbrev pub swept : Colour → Men → Axis → Way → ℕ → Colour → ℕ → ℕ
swept colour man_on axis way at c s = one_if colour c (reaches man_on axis way at s)

-- 1 where a sliding man on `at` attacks s along that half
abbrev pub slide_on : Man → Men → Axis → Way → ℕ → Colour → ℕ → ℕ
slide_on man man_on axis way at c s = one_if man.colour c (slides man.kind axis && reaches man_on axis way at s)

-- the same along both halves of an axis
abbrev pub slide_along : Man → Men → Axis → ℕ → Colour → ℕ → ℕ
slide_along man man_on axis at c s = slide_on man man_on axis Up at c s + slide_on man man_on axis Down at c s

-- the same along all four axes
abbrev pub slide : Man → Men → ℕ → Colour → ℕ → ℕ
slide man man_on at c s =
    slide_along man man_on Rank at c s + slide_along man man_on File at c s + slide_along man man_on Rising at c s + slide_along man man_on Falling at c s

-- 1 where a knight, a king or a pawn on `at` attacks s
abbrev pub leap : Man → ℕ → Colour → ℕ → ℕ
leap man at c s = one_if man.colour c (leaps man.colour man.kind at s)

-- 1 where the man on `at` attacks s
abbrev pub own : Man → Men → ℕ → Colour → ℕ → ℕ
own man man_on at c s = one_if man.colour c (attacks_as man man_on at s)

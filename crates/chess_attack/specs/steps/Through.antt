-- The attacks that go through a square: a man put on it closes them, and they open again when he goes.
--   IsFirstAt   the first man on a half of an axis; IsBare, no man stands on it
--   movers      a man who moves along an axis
--   is_slider   a man of a colour who moves along an axis
--   is_attacked_along     the first man on a half is such a man
--   cut_on      1 where such a man's attack on a square goes through; cut_along, along an axis; cut, along all four
use Rattle.std.specs.Prelude.{ℕ, ◌≡◌, ◌+◌, ◌<◌, Bool, true, false, cond, ◌&&◌, Option, Some, None, is_some}
use Rattle.std.specs.List.{list_any}
use Rattle.chess_types.specs.declared.board.axis.Axis.{Axis}
use Rattle.chess_types.specs.declared.board.axis.Axis.TheVariants.{Rank, File, Rising, Falling}
use Rattle.chess_types.specs.declared.board.man.Colour.{Colour}
use Rattle.chess_types.specs.declared.board.man.Man.{Man}
use Rattle.chess_types.specs.board.Board.{Men}
use Rattle.chess_types.specs.steps.KeptSets.{holds_straight, holds_diagonal}
use Rattle.chess_types.specs.board.Men.{same_colour}
use Rattle.chess_types.specs.board.Squares.{squares}
use Rattle.chess_types.specs.board.Attack.{is_clear, slides}
use Rattle.chess_attack.specs.declared.way.Way.{Way}
use Rattle.chess_attack.specs.declared.way.Way.TheVariants.{Up, Down}
use Rattle.chess_attack.specs.steps.Halves.{on_half, opposite}
use Rattle.chess_attack.specs.steps.Marks.{reaches}

-- f holds the first man from `at` on that half
pub record IsFirstAt (man_on : Men) (axis : Axis) (way : Way) (at f : ℕ) : Type 0 where
  pub on_board : f < 64
  pub half : on_half axis way at f ≡ true
  pub clear : is_clear man_on at f ≡ true
  pub holds : is_some (man_on f) ≡ true

-- no man stands on that half
pub record IsBare (man_on : Men) (axis : Axis) (way : Way) (at : ℕ) : Type 0 where
  pub bare : (t : ℕ) → t < 64 → on_half axis way at t ≡ true → man_on t ≡ None

-- a man who moves along that axis stands there
abbrev pub movers : Axis → Option Man → Bool
movers Rank = holds_straight
movers File = holds_straight
movers Rising = holds_diagonal
movers Falling = holds_diagonal

-- a man of the colour who moves along that axis
abbrev pub is_slider : Option Man → Axis → Colour → Bool
is_slider None axis c = false
is_slider (Some man) axis c = same_colour man.colour c && slides man.kind axis

-- the first man on that half is a man of the colour who moves along that axis
unfoldable pub is_attacked_along : Men → Axis → Way → ℕ → Colour → Bool
is_attacked_along man_on axis way at c = list_any (λ f. reaches man_on axis way at f && is_slider (man_on f) axis c) squares

-- 1 where such a man's attack on s, on that half, goes through `at`
abbrev pub cut_on : Men → Axis → Way → ℕ → Colour → ℕ → ℕ
cut_on man_on axis way at c s = cond (is_attacked_along man_on axis (opposite way) at c && reaches man_on axis way at s) 1 0

-- the same on both halves of an axis
abbrev pub cut_along : Men → Axis → ℕ → Colour → ℕ → ℕ
cut_along man_on axis at c s = cut_on man_on axis Up at c s + cut_on man_on axis Down at c s

-- how many attacks of the colour on s go through `at`
abbrev pub cut : Men → ℕ → Colour → ℕ → ℕ
cut man_on at c s = cut_along man_on Rank at c s + cut_along man_on File at c s + cut_along man_on Rising at c s + cut_along man_on Falling at c s

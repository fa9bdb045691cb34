-- Pins and the squares behind a king, half by half of the axes through his square.
--   round        a test of one of the eight halves of the axes through a square
--   pinned_on    a man is pinned on that half of an axis from the king: its first man, with the other side's slider next behind him
--   shaded_on    a square on that half lies behind the king, away from the other side's slider on the opposite half
use Rattle.std.specs.Prelude.{ℕ, Bool, ◌&&◌, ◌||◌}
use Rattle.chess_types.specs.declared.board.axis.Axis.{Axis}
use Rattle.chess_types.specs.declared.board.axis.Axis.TheVariants.{Rank, File, Rising, Falling}
use Rattle.chess_types.specs.declared.board.man.Colour.{Colour}
use Rattle.chess_types.specs.board.Board.{Men}
use Rattle.chess_types.specs.board.Men.{is_of, opponent}
use Rattle.chess_attack.specs.declared.way.Way.{Way}
use Rattle.chess_attack.specs.declared.way.Way.TheVariants.{Up, Down}
use Rattle.chess_attack.specs.steps.Halves.{opposite}
use Rattle.chess_attack.specs.steps.Marks.{reaches}
use Rattle.chess_attack.specs.steps.Through.{is_attacked_along}

-- the test of both halves of an axis, and of all eight
abbrev pub along : (Axis → Way → Bool) → Axis → Bool
along test axis = test axis Up || test axis Down

-- one of the eight halves of the axes passes the test
abbrev pub round : (Axis → Way → Bool) → Bool
round test = along test Rank || along test File || along test Rising || along test Falling

-- the first man from the king on that half is of his colour, and the next behind him a man of the other side who moves along it
abbrev pub pinned_on : Men → Colour → ℕ → ℕ → Axis → Way → Bool
pinned_on man_on colour king s axis way = reaches man_on axis way king s && (is_of colour (man_on s) && is_attacked_along man_on axis way s (opponent colour))

-- s is reached from the king on that half, and the first man on the opposite one is of the other side and moves along it
abbrev pub shaded_on : Men → Colour → ℕ → ℕ → Axis → Way → Bool
shaded_on man_on colour king s axis way = is_attacked_along man_on axis (opposite way) king (opponent colour) && reaches man_on axis way king s

-- The halves of the axes through a square: on each of the four axes, the squares of greater and those of smaller number.
--   on_half       a square lies on that half of the axis
--   opposite      the other half
--   half_length   how many squares do
--   stride        how far apart the numbers of an axis' squares are
--   stepped         that much further on
--   IsNext        the next square on the half
--   IsEnd         the half has no square
use Rattle.std.specs.Prelude.{ℕ, ◌≡◌, ◌+◌, ◌-◌, ◌<◌, nat_lt, Bool, true, false, ◌&&◌, ◌⊎◌, min}
use Rattle.chess_types.specs.declared.board.axis.Axis.{Axis}
use Rattle.chess_types.specs.declared.board.axis.Axis.TheVariants.{Rank, File, Rising, Falling}
use Rattle.chess_types.specs.board.Squares.{file_of, rank_of, on_axis}
use Rattle.chess_attack.specs.declared.way.Way.{Way}
use Rattle.chess_attack.specs.declared.way.Way.TheVariants.{Up, Down}

-- s is above a in number, or below it
abbrev pub is_towards : Way → ℕ → ℕ → Bool
is_towards Up a s = nat_lt a s
is_towards Down a s = nat_lt s a

-- s is on that half of the axis through a
unfoldable pub on_half : Axis → Way → ℕ → ℕ → Bool
on_half axis way a s = on_axis axis a s && is_towards way a s

-- the other half
abbrev pub opposite : Way → Way
opposite Up = Down
opposite Down = Up

-- how many squares are
abbrev pub half_length : Axis → Way → ℕ → ℕ
half_length Rank Up s = 7 - file_of s
half_length Rank Down s = file_of s
half_length File Up s = 7 - rank_of s
half_length File Down s = rank_of s
half_length Rising Up s = min (7 - file_of s) (7 - rank_of s)
half_length Rising Down s = min (file_of s) (rank_of s)
half_length Falling Up s = min (file_of s) (7 - rank_of s)
half_length Falling Down s = min (7 - file_of s) (rank_of s)

-- how far apart the numbers of neighbours on the axis are
abbrev pub stride : Axis → ℕ
stride Rank = 1
stride File = 8
stride Rising = 9
stride Falling = 7

-- that many further on, upwards or downwards
abbrev pub stepped : Way → ℕ → ℕ → ℕ
stepped Up s n = s + n
stepped Down s n = s - n

-- t is the next square on that half: every other lies beyond it
pub record IsNext (axis : Axis) (way : Way) (at t : ℕ) : Type 0 where
  pub on_board : t < 64
  pub next : on_half axis way at t ≡ true
  pub nearest : (s : ℕ) → s < 64 → on_half axis way at s ≡ true → (s ≡ t) ⊎ (on_half axis way t s ≡ true)
  pub shorter : half_length axis way at ≡ half_length axis way t + 1

-- that half has no square
pub record IsEnd (axis : Axis) (way : Way) (at : ℕ) : Type 0 where
  pub none : (s : ℕ) → s < 64 → on_half axis way at s ≡ false
  pub length : half_length axis way at ≡ 0

-- Where the kings and the rooks stand as a game begins.
--   is_home   a1, e1, h1, a8, e8 or h8
use Rattle.std.specs.Prelude.{ℕ, Bool, ◌==◌, ◌||◌}

-- a king or a rook is there as a game begins
abbrev pub is_home : ℕ → Bool
is_home s = s == 0 || (s == 4 || (s == 7 || (s == 56 || (s == 60 || s == 63))))

-- The leaps of a knight, a king and a pawn, each so many files and ranks away.
--   is_off                      a file or a rank is so many further on than another, up or down
--   lands                       a square is so many files and ranks from another
--   leap_on                     1 on that square; leap_sides, to both sides; leap_corners, also upwards and downwards
--   leap_king, leap_pawn        the leaps of a king and of a pawn
--   leaps_there                 a man of a colour leaps from one square to another
use Rattle.std.specs.Prelude.{ℕ, ◌+◌, ◌==◌, Bool, false, ◌&&◌, Option, Some, None}
use Rattle.chess_types.specs.declared.board.man.Colour.{Colour}
use Rattle.chess_types.specs.declared.board.man.Colour.TheVariants.{White, Black}
use Rattle.chess_types.specs.declared.board.man.Man.{Man}
use Rattle.chess_types.specs.board.Squares.{file_of, rank_of}
use Rattle.chess_types.specs.board.Men.{same_colour}
use Rattle.chess_types.specs.board.Attack.{leaps}
use Rattle.chess_attack.specs.declared.way.Way.{Way}
use Rattle.chess_attack.specs.declared.way.Way.TheVariants.{Up, Down}
use Rattle.chess_attack.specs.steps.Marks.{one_if}

-- b is n further on than a, up or down
abbrev pub is_off : Way → ℕ → ℕ → ℕ → Bool
is_off Up n a b = b == a + n
is_off Down n a b = a == b + n

-- s is so many files and so many ranks from `at`
unfoldable pub lands : Way → ℕ → Way → ℕ → ℕ → ℕ → Bool
lands across files along ranks at s = is_off across files (file_of at) (file_of s) && is_off along ranks (rank_of at) (rank_of s)

-- 1 for that colour on that square
abbrev pub leap_on : Colour → Way → ℕ → Way → ℕ → ℕ → Colour → ℕ → ℕ
leap_on colour across files along ranks at c s = one_if colour c (lands across files along ranks at s)

-- to both sides
abbrev pub leap_sides : Colour → ℕ → Way → ℕ → ℕ → Colour → ℕ → ℕ
leap_sides colour files along ranks at c s = leap_on colour Up files along ranks at c s + leap_on colour Down files along ranks at c s

-- to both sides, upwards and downwards
abbrev pub leap_corners : Colour → ℕ → ℕ → ℕ → Colour → ℕ → ℕ
leap_corners colour files ranks at c s = leap_sides colour files Up ranks at c s + leap_sides colour files Down ranks at c s

-- the way that a colour's pawns go
abbrev pub forward : Colour → Way
forward White = Up
forward Black = Down

-- the eight squares of a king
abbrev pub leap_king : Colour → ℕ → Colour → ℕ → ℕ
leap_king colour at c s =
    leap_corners colour 1 1 at c s + leap_sides colour 1 Up 0 at c s + leap_on colour Up 0 Up 1 at c s + leap_on colour Up 0 Down 1 at c s

-- the two squares that a pawn attacks
abbrev pub leap_pawn : Colour → ℕ → Colour → ℕ → ℕ
leap_pawn colour at c s = leap_sides colour 1 (forward colour) 1 at c s

-- a holds a man of the colour, who leaps to b
abbrev pub leaps_there : Option Man → Colour → ℕ → ℕ → Bool
leaps_there None c a b = false
leaps_there (Some man) c a b = same_colour man.colour c && leaps man.colour man.kind a b

-- Colours and kinds of men, and how many men of a sort a board has (FIDE Laws, article 2.2).
--   same_colour, opponent                 of colours
--   same_kind, kind_number                of kinds; colours and kinds have a number, by which keys distinguish men
--   is_man, is_of, is_king_of, holds_pawn what stands on a square
--   count_squares                         on how many squares a test of what stands there holds
--   men_of, kings_of                      how many men, and how many kings, of a colour
use Rattle.std.specs.Prelude.{ℕ, ◌==◌, ◌≤◌, Bool, true, false, List, Option, Some, None, count_by, ◌&&◌}
use Rattle.chess_types.specs.declared.board.man.Man.{Man}
use Rattle.chess_types.specs.declared.board.man.Colour.{Colour}
use Rattle.chess_types.specs.declared.board.man.Colour.TheVariants.{White, Black}
use Rattle.chess_types.specs.declared.board.man.Kind.{Kind}
use Rattle.chess_types.specs.declared.board.man.Kind.TheVariants.{Pawn, Knight, Bishop, Rook, Queen, King}
use Rattle.chess_types.specs.board.Board.{Board, man_at}
use Rattle.chess_types.specs.board.Squares.{squares}

-- the other colour
abbrev pub opponent : Colour → Colour
opponent White = Black
opponent Black = White

-- both are White, or both Black
abbrev pub same_colour : Colour → Colour → Bool
same_colour White White = true
same_colour White Black = false
same_colour Black White = false
same_colour Black Black = true

-- the kinds in order, from the pawn to the king
abbrev pub kind_number : Kind → ℕ
kind_number Pawn = 0
kind_number Knight = 1
kind_number Bishop = 2
kind_number Rook = 3
kind_number Queen = 4
kind_number King = 5

-- 0 for White, 1 for Black
abbrev pub colour_number : Colour → ℕ
colour_number White = 0
colour_number Black = 1

-- the same kind of man
abbrev pub same_kind : Kind → Kind → Bool
same_kind k l = kind_number k == kind_number l

-- a pawn
abbrev pub is_pawn : Kind → Bool
is_pawn Pawn = true
is_pawn _ = false

-- a king
abbrev pub is_king : Kind → Bool
is_king King = true
is_king _ = false

-- a man of this colour and kind stands there
abbrev pub is_man : Option Man → Colour → Kind → Bool
is_man None colour wanted = false
is_man (Some man) colour wanted = same_colour man.colour colour && same_kind man.kind wanted

-- a man of the colour stands there
abbrev pub is_of : Colour → Option Man → Bool
is_of colour None = false
is_of colour (Some man) = same_colour man.colour colour

-- the king of the colour stands there
abbrev pub is_king_of : Colour → Option Man → Bool
is_king_of colour None = false
is_king_of colour (Some man) = same_colour man.colour colour && is_king man.kind

-- a pawn stands there
abbrev pub holds_pawn : Option Man → Bool
holds_pawn None = false
holds_pawn (Some man) = is_pawn man.kind

-- on how many squares the test of what stands there holds
unfoldable pub count_squares : (Option Man → Bool) → Board → ℕ
count_squares test board = count_by (λ s. test (man_at board s)) squares

-- how many men of the colour the board has
abbrev pub men_of : Board → Colour → ℕ
men_of board colour = count_squares (is_of colour) board

-- how many kings of the colour the board has
abbrev pub kings_of : Board → Colour → ℕ
kings_of board colour = count_squares (is_king_of colour) board

-- no colour has more than 16 men among these cells
abbrev pub AtMost16 : List (Option Man) → Type 0
AtMost16 cells = (colour : Colour) → count_by (is_of colour) cells ≤ 16

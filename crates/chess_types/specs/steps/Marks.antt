-- What a square holds, as the one byte that is kept of it.
--   cell_of_mark   the man of a mark, if it is one's
--   mark_of        the mark of what a square holds
use Rattle.std.specs.Prelude.{◌≡◌, Option, Some, None, refl}
use Rattle.chess_types.specs.declared.board.content.Mark.{Mark}
use Rattle.chess_types.specs.declared.board.content.Mark.TheVariants.{Empty, WhitePawn, WhiteKnight, WhiteBishop, WhiteRook, WhiteQueen, WhiteKing, BlackPawn, BlackKnight, BlackBishop, BlackRook, BlackQueen, BlackKing}
use Rattle.chess_types.specs.declared.board.man.Colour.{Colour}
use Rattle.chess_types.specs.declared.board.man.Colour.TheVariants.{White, Black}
use Rattle.chess_types.specs.declared.board.man.Kind.{Kind}
use Rattle.chess_types.specs.declared.board.man.Kind.TheVariants.{Pawn, Knight, Bishop, Rook, Queen, King}
use Rattle.chess_types.specs.declared.board.man.Man.{Man}

-- a white man
abbrev pub white : Kind → Option Man
white kind = Some (record { colour = White; kind = kind })

-- a black man
abbrev pub black : Kind → Option Man
black kind = Some (record { colour = Black; kind = kind })

abbrev pub cell_of_mark : Mark → Option Man
cell_of_mark Empty = None
cell_of_mark WhitePawn = white Pawn
cell_of_mark WhiteKnight = white Knight
cell_of_mark WhiteBishop = white Bishop
cell_of_mark WhiteRook = white Rook
cell_of_mark WhiteQueen = white Queen
cell_of_mark WhiteKing = white King
cell_of_mark BlackPawn = black Pawn
cell_of_mark BlackKnight = black Knight
cell_of_mark BlackBishop = black Bishop
cell_of_mark BlackRook = black Rook
cell_of_mark BlackQueen = black Queen
cell_of_mark BlackKing = black King

-- the mark of a white man
abbrev pub white_mark : Kind → Mark
white_mark Pawn = WhitePawn
white_mark Knight = WhiteKnight
white_mark Bishop = WhiteBishop
white_mark Rook = WhiteRook
white_mark Queen = WhiteQueen
white_mark King = WhiteKing

-- the mark of a black man
abbrev pub black_mark : Kind → Mark
black_mark Pawn = BlackPawn
black_mark Knight = BlackKnight
black_mark Bishop = BlackBishop
black_mark Rook = BlackRook
black_mark Queen = BlackQueen
black_mark King = BlackKing

-- the mark of a man
abbrev pub man_mark : Colour → Kind → Mark
man_mark White kind = white_mark kind
man_mark Black kind = black_mark kind

abbrev pub mark_of : Option Man → Mark
mark_of None = Empty
mark_of (Some man) = man_mark man.colour man.kind

-- a mark is that of what it stands for
abbrev pub mark_of-cell : (m : Mark) → mark_of (cell_of_mark m) ≡ m
mark_of-cell Empty = refl
mark_of-cell WhitePawn = refl
mark_of-cell WhiteKnight = refl
mark_of-cell WhiteBishop = refl
mark_of-cell WhiteRook = refl
mark_of-cell WhiteQueen = refl
mark_of-cell WhiteKing = refl
mark_of-cell BlackPawn = refl
mark_of-cell BlackKnight = refl
mark_of-cell BlackBishop = refl
mark_of-cell BlackRook = refl
mark_of-cell BlackQueen = refl
mark_of-cell BlackKing = refl

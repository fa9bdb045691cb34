use Rattle.std.proofs.Common.{refl}
use Rattle.chess_types.specs.board.Position.{start_cells}
use Rattle.chess_types.proofs.board.start.start_contents.Goals as goal

pub returns : goal.returns
unfolding start_cells
returns c =
    rw (c.empty-empty.ensures, c.white-pawn.ensures, c.white-knight.ensures, c.white-bishop.ensures, c.white-rook.ensures, c.white-queen.ensures, c.white-king.ensures, c.black-their_pawn.ensures, c.black-their_knight.ensures, c.black-their_bishop.ensures, c.black-their_rook.ensures, c.black-their_queen.ensures, c.black-their_king.ensures) refl

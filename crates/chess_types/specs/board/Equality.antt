-- Which boards and which positions are equal: in all that they consist of.
--   same_board   the same men stand on the same squares
--   same_state   the same men, side to move, castling rights, en passant target, halfmove clock and fullmove number
-- The Laws' own question, whether a position has come up before, is `is_same` (Repetition.antt): it asks for no counter, and for a
-- target only where a pawn can be captured on it.
use Rattle.std.specs.Prelude.{◌==◌, Bool, ◌&&◌}
use Rattle.std.specs.List.{list_all}
use Rattle.chess_types.specs.board.Board.{Board, man_at}
use Rattle.chess_types.specs.board.Squares.{squares}
use Rattle.chess_types.specs.board.Men.{same_colour}
use Rattle.chess_types.specs.board.Position.{PositionParts}
use Rattle.chess_types.specs.board.Repetition.{same_man, same_rights, same_target}

-- the same men are on the same squares
unfoldable pub same_board : Board → Board → Bool
same_board a b = list_all (λ s. same_man (man_at a s) (man_at b s)) squares

-- all six fields are equal
unfoldable pub same_state : PositionParts → PositionParts → Bool
same_state p q =
    same_board p.placement q.placement && (same_colour p.side q.side && (same_rights p.rights q.rights && (same_target p.target q.target && (p.clock == q.clock && p.number == q.number))))

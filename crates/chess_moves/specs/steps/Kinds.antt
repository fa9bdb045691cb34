-- The moves of men of one kind, counted together.
--   is_piece     a knight, a bishop, a rook or a queen
--   legal_from   how many legal moves start on the squares that pass a test
--   Begun        so many legal moves start elsewhere than on these squares of the side to move
use Rattle.std.specs.Prelude.{ℕ, ◌≡◌, ◌+◌, List, Bool, true, false, filter, length}
use Rattle.std.specs.List.{flat_map, list_all}
use Rattle.chess_types.specs.declared.board.man.Kind.{Kind}
use Rattle.chess_types.specs.declared.board.man.Kind.TheVariants.{Pawn, King}
use Rattle.chess_types.specs.board.Men.{is_of}
use Rattle.chess_types.specs.board.Squares.{squares}
use Rattle.chess_types.specs.board.Position.{PositionParts, man_on}
use Rattle.chess_types.specs.board.Legal.{is_legal, legal_moves, moves_from}

-- neither a pawn nor a king
abbrev pub is_piece : Kind → Bool
is_piece Pawn = false
is_piece King = false
is_piece other = true

-- how many legal moves start on the squares that pass the test
abbrev pub legal_from : PositionParts → (ℕ → Bool) → ℕ
legal_from p test = length (filter (is_legal p) (flat_map moves_from (filter test squares)))

-- men of the side to move stand on these squares, and so many of all legal moves start elsewhere
pub record Begun (p : PositionParts) (count : ℕ) (rest : List ℕ) : Type 0 where
  pub own : list_all (λ s. is_of p.side (man_on p s)) rest ≡ true
  pub left : count + length (filter (is_legal p) (flat_map moves_from rest)) ≡ length (legal_moves p)

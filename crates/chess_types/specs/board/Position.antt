-- A position, and which positions are well formed (FIDE Laws, articles 2.2, 3.7, 3.8.2 and 3.9; PGN 16.1.3).
--   PositionParts       the six fields of a position
--   king_home, rook_home   where kings and rooks stand as a game begins
--   by_wing, home_square   one of two files, by the wing; the square of it on the rank where a side's king begins
--   is_explained        a pawn of the other side has just passed over the target
--   IsSetup             every part of 'well formed' but the last
--   OpponentNotInCheck  the last: the side not to move isn't in check
--   IsWellFormed        both
--   start               the position in which a game begins
use Rattle.std.specs.Prelude.{◌≡◌, ℕ, ◌+◌, ◌-◌, ◌==◌, ◌<◌, ◌≤◌, Bool, true, false, ◌&&◌, List, [], ◌∷◌, ◌++◌, map, replicate, Option, Some, None, is_none}
use Rattle.chess_types.specs.declared.board.man.Colour.{Colour}
use Rattle.chess_types.specs.declared.board.man.Colour.TheVariants.{White, Black}
use Rattle.chess_types.specs.declared.board.man.Kind.{Kind}
use Rattle.chess_types.specs.declared.board.man.Kind.TheVariants.{Pawn, Knight, Bishop, Rook, Queen, King}
use Rattle.chess_types.specs.declared.board.man.Man.{Man}
use Rattle.chess_types.specs.declared.board.position.Rights.{Rights}
use Rattle.chess_types.specs.declared.board.position.Wing.{Wing}
use Rattle.chess_types.specs.declared.board.position.Wing.TheVariants.{KingSide, QueenSide}
use Rattle.chess_types.specs.board.Board.{Board, Men, man_at}
use Rattle.chess_types.specs.board.Cells.{board_of}
use Rattle.chess_types.specs.board.Squares.{rank_of}
use Rattle.chess_types.specs.board.Men.{opponent, is_man, holds_pawn, men_of, kings_of}
use Rattle.chess_types.specs.board.Attack.{in_check}

-- a position: the men, the side to move, the castling rights, the en passant target, the halfmove clock and the fullmove number
pub record PositionParts : Type 0 where
  pub placement : Board
  pub side : Colour
  pub rights : Rights
  pub target : Option ℕ
  pub clock : ℕ
  pub number : ℕ

-- what stands on each square
abbrev pub man_on : PositionParts → Men
man_on p = man_at p.placement

-- e1 and e8
abbrev pub king_home : Colour → ℕ
king_home White = 4
king_home Black = 60

-- one of two files, by the side of the board
abbrev pub by_wing : Wing → ℕ → ℕ → ℕ
by_wing KingSide king_side queen_side = king_side
by_wing QueenSide king_side queen_side = queen_side

-- the square of that file on the rank where the colour's king begins, rank 1 or 8
abbrev pub home_square : Colour → Wing → ℕ → ℕ → ℕ
home_square White wing king_side queen_side = by_wing wing king_side queen_side
home_square Black wing king_side queen_side = 56 + by_wing wing king_side queen_side

-- where the rook of that side of the board is as a game begins: h1, a1, h8, a8
abbrev pub rook_home : Colour → Wing → ℕ
rook_home colour wing = home_square colour wing 7 0

-- the castling right
abbrev pub holds : Rights → Colour → Wing → Bool
holds rights White KingSide = rights.white_king
holds rights White QueenSide = rights.white_queen
holds rights Black KingSide = rights.black_king
holds rights Black QueenSide = rights.black_queen

-- With White to move the target is on rank 6, it and the square behind it are empty, and a black pawn stands on rank 5
-- before it; mirrored for Black.
abbrev pub is_explained : Colour → Men → ℕ → Bool
is_explained White man_on t = rank_of t == 5 && is_none (man_on t) && is_none (man_on (t + 8)) && is_man (man_on (t - 8)) Black Pawn
is_explained Black man_on t = rank_of t == 2 && is_none (man_on t) && is_none (man_on (t - 8)) && is_man (man_on (t + 8)) White Pawn

-- One king a side; at most 16 men a side; no pawn on ranks 1 and 8; a right only where that king and rook stand at home;
-- a target only where it is explained; the number at least 1.
pub record IsSetup (p : PositionParts) : Type 0 where
  pub kings : (c : Colour) → kings_of p.placement c ≡ 1
  pub few : (c : Colour) → men_of p.placement c ≤ 16
  pub pawns : (s : ℕ) → s < 64 → holds_pawn (man_on p s) ≡ true → (0 < rank_of s) × (rank_of s < 7)
  pub king_at_home : (c : Colour) (w : Wing) → holds p.rights c w ≡ true → man_on p (king_home c) ≡ Some (record { colour = c; kind = King })
  pub rook_at_home : (c : Colour) (w : Wing) → holds p.rights c w ≡ true → man_on p (rook_home c w) ≡ Some (record { colour = c; kind = Rook })
  pub target : (t : ℕ) → p.target ≡ Some t → is_explained p.side (man_on p) t ≡ true
  pub number : 1 ≤ p.number

-- the side not to move isn't in check
abbrev pub OpponentNotInCheck : PositionParts → Type 0
OpponentNotInCheck p = in_check (man_on p) (opponent p.side) ≡ false

-- a setup, and the side not to move is not in check
pub record IsWellFormed (p : PositionParts) : Type 0 where
  pub setup : IsSetup p
  pub quiet : OpponentNotInCheck p

-- a man of the colour and the kind stands there
abbrev pub cell_of : Colour → Kind → Option Man
cell_of colour kind = Some (record { colour = colour; kind = kind })

-- the men of a side behind its pawns, from file a
abbrev pub back_rank : Colour → List (Option Man)
back_rank colour = map (cell_of colour) (Rook ∷ Knight ∷ Bishop ∷ Queen ∷ King ∷ Bishop ∷ Knight ∷ Rook ∷ [])

-- what stands on the squares as a game begins, from a1 to h8 (2.3)
unfoldable pub start_cells : List (Option Man)
start_cells =
    back_rank White ++ replicate 8 (cell_of White Pawn) ++ replicate 32 None ++ replicate 8 (cell_of Black Pawn) ++ back_rank Black

-- the position in which a game begins (2.3)
unfoldable pub start : PositionParts
start = record {
  placement = board_of start_cells;
  side = White;
  rights = record { white_king = true; white_queen = true; black_king = true; black_queen = true };
  target = None;
  clock = 0;
  number = 1;
}

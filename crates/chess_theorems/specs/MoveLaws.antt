-- What legal moves keep, and what they count (FIDE Laws, articles 3.7.3, 3.8.2 and 9.3; PGN 16.1.3).
--   how_many       how many men of a colour and a kind are on the board
--   once_pawns     how many of them must have been pawns
--   IsArmy         pawns, and men who must have been pawns, are at most eight
--   MenNeverRise, PawnsNeverRise   a legal move adds no man of either colour, and no pawn
--   ArmiesStay     two such armies stay such armies
--   RightsAreLost  a castling right that is held after some legal moves was held before them
--   IsCastled      the king and the rook have castled, with the right, over squares that were not attacked
--   CastlingIsSound   so it is after each legal move of a king as castling takes it
--   TakenAtOnce    a pawn that is captured en passant has made its advance of two squares on the move before
--   ClockCounts    the halfmove clock is 0 after a pawn's move or a capture, else one more
--   black_moves    how many of some moves are Black's
--   NumberCounts   the fullmove number has grown by them
use Rattle.std.specs.Prelude.{◌≡◌, ℕ, ◌+◌, ◌-◌, ◌≤◌, true, ◌||◌, if◌then◌else◌, ◌⊎◌, List, [], ◌∷◌, is_some, Some, None, false}
use Rattle.std.specs.List.{Contains}
use Rattle.chess_types.specs.declared.board.man.Colour.{Colour}
use Rattle.chess_types.specs.declared.board.man.Colour.TheVariants.{White, Black}
use Rattle.chess_types.specs.declared.board.man.Kind.{Kind}
use Rattle.chess_types.specs.declared.board.man.Kind.TheVariants.{Pawn, Knight, Bishop, Rook, Queen, King}
use Rattle.chess_types.specs.declared.board.position.Wing.{Wing}
use Rattle.chess_types.specs.board.Board.{Board}
use Rattle.chess_types.specs.board.MoveParts.{MoveParts}
use Rattle.chess_types.specs.board.Men.{count_squares, holds_pawn, is_man, men_of, opponent}
use Rattle.chess_types.specs.board.Position.{PositionParts, IsWellFormed, holds, king_home, man_on, rook_home}
use Rattle.chess_types.specs.board.Attack.{in_check, is_attacked}
use Rattle.chess_types.specs.board.Pseudo.{castles_to, crossed, midway, reached}
use Rattle.chess_types.specs.board.After.{after}
use Rattle.chess_types.specs.board.Legal.{legal_moves}
use Rattle.chess_types.specs.board.Lines.{play}
use Rattle.chess_types.specs.board.Repetition.{takes_target}
use Rattle.chess_theorems.specs.DeadLaws.{AreListed}

-- how many men of the colour and the kind
abbrev pub how_many : Colour → Kind → Board → ℕ
how_many c kind board = count_squares (λ there. is_man there c kind) board

-- the knights, bishops and rooks beyond two of a kind, and the queens beyond one (2.2)
abbrev pub once_pawns : Colour → Board → ℕ
once_pawns c board = (how_many c Knight board - 2) + (how_many c Bishop board - 2) + (how_many c Rook board - 2) + (how_many c Queen board - 1)

-- with the pawns they are at most eight
abbrev pub IsArmy : Colour → Board → Type 0
IsArmy c board = how_many c Pawn board + once_pawns c board ≤ 8

-- no man comes onto the board
abbrev pub MenNeverRise : Type 0
MenNeverRise = (p : PositionParts) (m : MoveParts) → IsWellFormed p → Contains (legal_moves p) m → (c : Colour) → men_of (after p m).placement c ≤ men_of p.placement c

-- and no pawn
abbrev pub PawnsNeverRise : Type 0
PawnsNeverRise =
    (p : PositionParts) (m : MoveParts) → IsWellFormed p → Contains (legal_moves p) m → (c : Colour) →
    how_many c Pawn (after p m).placement ≤ how_many c Pawn p.placement

-- who promotes is a pawn no more
abbrev pub ArmiesStay : Type 0
ArmiesStay =
    (p : PositionParts) (moves : List MoveParts) → IsWellFormed p → AreListed p moves → (c : Colour) → IsArmy c p.placement → IsArmy c (play p moves).placement

-- a castling right isn't won back (3.8.2.1)
abbrev pub RightsAreLost : Type 0
RightsAreLost =
    (p : PositionParts) (moves : List MoveParts) → IsWellFormed p → AreListed p moves → (c : Colour) (w : Wing) →
    holds (play p moves).rights c w ≡ true → holds p.rights c w ≡ true

-- How castling leaves a position: the king came from its home with its right and passed no attacked square, it and the rook stand where castling
-- takes them, and nothing stands where they came from (3.8.2).
pub record IsCastled (p q : PositionParts) (w : Wing) : Type 0 where
  pub right : holds p.rights p.side w ≡ true
  pub out_of_check : is_attacked (man_on p) (opponent p.side) (king_home p.side) ≡ false
  pub over_safe : is_attacked (man_on p) (opponent p.side) (crossed p.side w) ≡ false
  pub into_safe : in_check (man_on q) p.side ≡ false
  pub king : man_on q (reached p.side w) ≡ Some (record { colour = p.side; kind = King })
  pub rook : man_on q (crossed p.side w) ≡ Some (record { colour = p.side; kind = Rook })
  pub king_left : man_on q (king_home p.side) ≡ None
  pub rook_left : man_on q (rook_home p.side w) ≡ None

-- a legal move of the king by two squares is such a castling
abbrev pub CastlingIsSound : Type 0
CastlingIsSound =
    (p : PositionParts) (m : MoveParts) (w : Wing) → IsWellFormed p → Contains (legal_moves p) m →
    man_on p m.from ≡ Some (record { colour = p.side; kind = King }) → castles_to p.side w m ≡ true → IsCastled p (after p m) w

-- the move before a capture en passant is the advance of the captured pawn over that square (3.7.3.1, 3.7.3.2)
abbrev pub TakenAtOnce : Type 0
TakenAtOnce =
    (p : PositionParts) (m n : MoveParts) → IsWellFormed p → Contains (legal_moves p) m → Contains (legal_moves (after p m)) n →
    takes_target (after p m) (man_on (after p m) n.from) n ≡ true →
    (holds_pawn (man_on p m.from) ≡ true) × ((m.to ≡ m.from + 16) ⊎ (m.from ≡ m.to + 16)) × (midway m ≡ n.to)

-- no pawn's move and no capture goes uncounted, and no other move sets the clock back (9.3)
abbrev pub ClockCounts : Type 0
ClockCounts =
    (p : PositionParts) (m : MoveParts) → IsWellFormed p → Contains (legal_moves p) m →
    (after p m).clock ≡ (if holds_pawn (man_on p m.from) || is_some (man_on p m.to) then 0 else (p.clock + 1))

-- of moves from a position, those that Black makes
abbrev pub black_moves : Colour → List MoveParts → ℕ
black_moves c [] = 0
black_moves White (m ∷ moves) = black_moves Black moves
black_moves Black (m ∷ moves) = 1 + black_moves White moves

-- the number counts them (PGN 16.1.3.6)
abbrev pub NumberCounts : Type 0
NumberCounts =
    (p : PositionParts) (moves : List MoveParts) → IsWellFormed p → AreListed p moves → (play p moves).number ≡ p.number + black_moves p.side moves

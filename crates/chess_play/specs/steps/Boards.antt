-- The boards that a move goes through, made and taken back one man at a time.
--   moved, restored            a man has left one square for another; a man that was taken stands again
--   back                       the same man goes the other way
--   rook_way                 the way of the castling rook, where the move is castling; shifted, it has gone; rook_back, it has gone back
--   carried_on, carried_back   the move is made, and taken back: the steps one after the other
--   CanShift, CanMake, CanTakeBack   the men stand so that each step finds its man, its empty square and its room
--   ticks_of, rook_ticks      the most ticks of a capture, and of the rook's part of castling
use Rattle.std.specs.Prelude.{◌≡◌, ℕ, ◌<◌, true, Option, Some, None, IsSome, IfSome, if◌then◌else◌, option_map}
use Rattle.std.specs.FinMap.{insert, remove}
use Rattle.chess_types.specs.declared.board.man.Colour.{Colour}
use Rattle.chess_types.specs.declared.board.man.Man.{Man}
use Rattle.chess_types.specs.declared.board.position.Wing.{Wing}
use Rattle.chess_types.specs.declared.board.position.Wing.TheVariants.{KingSide, QueenSide}
use Rattle.chess_types.specs.board.Board.{Board, man_at}
use Rattle.chess_types.specs.board.MoveParts.{MoveParts}
use Rattle.chess_types.specs.board.Men.{men_of}
use Rattle.chess_types.specs.board.Position.{rook_home}
use Rattle.chess_types.specs.board.Pseudo.{crossed}
use Rattle.chess_types.specs.board.After.{captured_at, moved_man, is_castling, rook_of}
use Rattle.chess_play.specs.declared.steps.Way.{Way}

-- a man has gone from one square to another
abbrev pub moved : ℕ → ℕ → Man → Board → Board
moved from to man board = insert (remove board from) to man

-- a man that was taken is back, if there was one
abbrev pub restored : ℕ → Option Man → Board → Board
restored at None board = board
restored at (Some man) board = insert board at man

-- the same man goes the other way
abbrev pub back : Way → Way
back s = record { man = s.man; from = s.to; to = s.from }

-- where the king castles, the rook goes from its home to the square that the king crosses
abbrev pub rook_to : Colour → Wing → Way
rook_to side wing = record { man = rook_of side; from = rook_home side wing; to = crossed side wing }

-- the castling rook's way, if the king castles
abbrev pub rook_way : Man → MoveParts → Option Way
rook_way man m =
    if is_castling man KingSide m then Some (rook_to man.colour KingSide)
    else (if is_castling man QueenSide m then Some (rook_to man.colour QueenSide) else None)

-- and its way back
abbrev pub rook_way_back : Man → MoveParts → Option Way
rook_way_back man m = option_map back (rook_way man m)

-- the man has gone, if one goes
abbrev pub shifted : Option Way → Board → Board
shifted None board = board
shifted (Some s) board = moved s.from s.to s.man board

-- the castling rook is back, if the king castled
abbrev pub rook_back : Man → MoveParts → Board → Board
rook_back man m = shifted (rook_way_back man m)

-- the captured man is taken, the man goes, the rook castles: with the target before the move
abbrev pub carried_on : Option ℕ → Man → MoveParts → Board → Board
carried_on target man m board =
    shifted (rook_way man m) (moved m.from m.to (moved_man man m.promo) (remove board (captured_at target man m)))

-- the rook goes back, the man goes back, the captured man stands again
abbrev pub carried_back : Option ℕ → Man → MoveParts → Option Man → Board → Board
carried_back target man m taken board =
    restored (captured_at target man m) taken (moved m.to m.from man (rook_back man m board))

-- a man stands on one square, the other is free without him, and there is room for the man who comes
pub record CanShift (board : Board) (from to : ℕ) (man : Man) : Type 0 where
  pub here : IsSome (man_at board from)
  pub free : man_at (remove board from) to ≡ None
  pub room : men_of (remove board from) man.colour < 16

-- the rook can go, if it does
abbrev pub CanCastle : Option Way → Board → Type 0
CanCastle rook board = IfSome rook (λ s. CanShift board s.from s.to s.man)

-- castling captures nothing
abbrev pub CapturesOrCastles : Man → MoveParts → Option Man → Type 0
CapturesOrCastles man m taken = (wing : Wing) → is_castling man wing m ≡ true → taken ≡ None

-- the men are where a move needs them
pub record CanMake (target : Option ℕ) (man : Man) (m : MoveParts) (board : Board) : Type 0 where
  pub man_goes : CanShift (remove board (captured_at target man m)) m.from m.to (moved_man man m.promo)
  pub rook_goes : CanCastle (rook_way man m) (moved m.from m.to (moved_man man m.promo) (remove board (captured_at target man m)))
  pub either : CapturesOrCastles man m (man_at board (captured_at target man m))

-- the men are where taking a move back needs them
pub record CanTakeBack (target : Option ℕ) (man : Man) (m : MoveParts) (taken : Option Man) (board : Board) : Type 0 where
  pub rook_goes : CanCastle (rook_way_back man m) board
  pub man_goes : CanShift (rook_back man m board) m.to m.from man
  pub free : man_at (moved m.to m.from man (rook_back man m board)) (captured_at target man m) ≡ None
  pub room : IfSome taken (λ other. men_of (moved m.to m.from man (rook_back man m board)) other.colour < 16)
  pub either : CapturesOrCastles man m taken

-- the ticks of taking a man off, at most
abbrev pub ticks_of : Option Man → ℕ
ticks_of None = 0
ticks_of (Some man) = 54

-- the ticks of the castling rook, at most
abbrev pub rook_ticks : Option Way → ℕ
rook_ticks None = 0
rook_ticks (Some s) = 108

-- What is known of a position whose moves are the last that a search looks at.
--   queen_of     a queen of a colour
--   IsFrontier   where the other side's king is, the squares that a queen sees from there, and a free pawn
--   IsPlainMove  a man's move from one square to another, by which nothing else moves or changes
--   IsQuietMove  such a move that surely gives no check
--   AfterQuiet   after a move the other side isn't in check, and an answer serves for a draw and for the evaluation then
--   pawn_of      a pawn of a colour
--   IsStep       the square ahead of a pawn, on which it isn't promoted
--   IsFreePawn   a pawn of the other side that can step there, and isn't in line with its king
--   IsElsewhere  a move ends on neither of the two squares
--   GoesOn       after a move the other side can play on, in a position that isn't dead
--   AreSumsAt    sums of a board, where they are known
--   IsFar        no legal move makes the line drawn but by a dead position
use Rattle.std.specs.Prelude.{ℕ, ◌≡◌, ◌≢◌, ◌<◌, ◌+◌, ◌==◌, Bool, ◌&&◌, ◌||◌, true, false, length, Option, Some, None, is_some, IfSome, ℤ, neg_ℤ}
use Rattle.std.specs.FinSet.{contains}
use Rattle.chess_types.specs.declared.board.man.Colour.{Colour}
use Rattle.chess_types.specs.declared.board.man.Kind.TheVariants.{Pawn, Queen}
use Rattle.chess_types.specs.declared.board.man.Man.{Man}
use Rattle.chess_types.specs.board.MoveParts.{MoveParts}
use Rattle.chess_types.specs.board.Squares.{rank_of}
use Rattle.chess_types.specs.board.Men.{is_king, is_king_of, opponent}
use Rattle.chess_types.specs.board.Pseudo.{is_ahead, last_rank}
use Rattle.chess_types.specs.board.Dead.{is_dead}
use Rattle.chess_types.specs.board.Legal.{is_legal, legal_moves}
use Rattle.chess_types.specs.board.Lines.{Line, last, extended}
use Rattle.chess_moves.specs.steps.Guarded.{in_line}
use Rattle.chess_types.specs.board.Attack.{attacks_as, in_check}
use Rattle.chess_types.specs.board.After.{after, is_en_passant}
use Rattle.chess_types.specs.board.Position.{PositionParts, man_on}
use Rattle.chess_eval.specs.Evaluation.{Sums, AreSumsOf}
use Rattle.chess_search.specs.Value.{counts_drawn, evaluation_for}
use Rattle.chess_search.specs.steps.Windows.{IsDecided}
use Rattle.chess_search.specs.declared.frontier.FreePawn.{FreePawn}
use Rattle.chess_search.specs.declared.frontier.Frontier.{Frontier}

-- a queen of the colour
abbrev pub queen_of : Colour → Man
queen_of colour = record { colour = colour; kind = Queen }

-- a pawn of the colour
abbrev pub pawn_of : Colour → Man
pawn_of colour = record { colour = colour; kind = Pawn }

-- one square forward, not to the last rank (3.7.1)
pub record IsStep (colour : Colour) (at ahead : ℕ) : Type 0 where
  pub on_board : ahead < 64
  pub forward : is_ahead colour at ahead ≡ true
  pub short : (rank_of ahead == last_rank colour) ≡ false

-- a pawn of the side that doesn't move, which bars no line to its king, and may step (3.7.1)
pub record IsFreePawn (pawn : FreePawn) (king : ℕ) (p : PositionParts) : Type 0 where
  pub on_board : pawn.at < 64
  pub there : man_on p pawn.at ≡ Some (pawn_of (opponent p.side))
  pub aside : in_line king pawn.at ≡ false
  pub step : IsStep (opponent p.side) pawn.at pawn.ahead
  pub empty : man_on p pawn.ahead ≡ None

-- the pawn isn't taken, and its way not barred
pub record IsElsewhere (pawn : FreePawn) (m : MoveParts) : Type 0 where
  pub taken : m.to ≢ pawn.at
  pub barred : m.to ≢ pawn.ahead

-- what is computed once for a position whose moves are the last to be looked at
pub record IsFrontier (frontier : Frontier) (p : PositionParts) : Type 0 where
  pub on_board : frontier.king < 64
  pub king : is_king_of (opponent p.side) (man_on p frontier.king) ≡ true
  pub seen : (s : ℕ) → s < 64 → contains frontier.seen s ≡ attacks_as (queen_of p.side) (man_on p) frontier.king s
  pub free : IfSome frontier.free (λ pawn. IsFreePawn pawn frontier.king p)

-- no promotion, castling or en passant
pub record IsPlainMove (p : PositionParts) (man : Man) (m : MoveParts) : Type 0 where
  pub here : man_on p m.from ≡ Some man
  pub plain : m.promo ≡ None
  pub steps : (is_king man.kind && (m.to == m.from + 2 || m.from == m.to + 2)) ≡ false
  pub passes_none : is_en_passant p.target man m ≡ false

-- and the man is on no line to the king, and doesn't attack him from his new square
pub record IsQuietMove (king : ℕ) (p : PositionParts) (man : Man) (m : MoveParts) : Type 0 where
  pub goes : IsPlainMove p man m
  pub off_line : attacks_as (queen_of p.side) (man_on p) king m.from ≡ false
  pub away : attacks_as man (man_on p) m.to king ≡ false

-- an answer for a move that surely gives no check
pub record AfterQuiet (p : PositionParts) (m : MoveParts) (alpha beta answer : ℤ) : Type 0 where
  pub quiet : in_check (man_on (after p m)) (after p m).side ≡ false
  pub decided : IsDecided alpha beta (neg_ℤ (evaluation_for (after p m))) answer

-- a move after which there is a legal one, and the position isn't dead: the answer is the evaluation
pub record GoesOn (p : PositionParts) (m : MoveParts) (answer : ℤ) : Type 0 where
  pub some : 0 < length (legal_moves (after p m))
  pub alive : is_dead (after p m) ≡ false
  pub evaluated : answer ≡ neg_ℤ (evaluation_for (after p m))

-- a line that counts as drawn after a legal move only where its last position is dead then
abbrev pub IsFar : Bool → Line → Type 0
IsFar claims line =
    (m : MoveParts) → m.from < 64 → m.to < 64 → is_legal (last line) m ≡ true → counts_drawn claims (extended line m) ≡ is_dead (last (extended line m))

-- a pawn is looked for in such a line alone
abbrev pub IsFarWhereFree : Bool → Frontier → Line → Type 0
IsFarWhereFree claims frontier line = is_some frontier.free ≡ true → IsFar claims line

-- sums that are known are those of the position
abbrev pub AreSumsAt : Option Sums → PositionParts → Type 0
AreSumsAt sums p = IfSome sums (λ s. AreSumsOf s p.placement)

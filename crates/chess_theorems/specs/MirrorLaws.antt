-- The Laws are the same for both sides (FIDE Laws, articles 3.1 to 3.9): what becomes of a position that is seen from the other side.
--   turned       the move so seen
--   IsTurned     a position is another one so seen, but for its fullmove number
--   CountsTurn   the attack counts are the turned ones
--   ChecksTurn   a king is in check where the other is
--   LegalTurns   the legal moves are the turned ones
--   AfterTurns   and lead to the turned positions
--   MateTurns    it is mate where the other is
--   LinesTurn    and a line so seen has as many repetitions, the same status and the same claims
use Rattle.std.specs.Prelude.{◌≡◌, ℕ, ◌<◌, map, option_map}
use Rattle.chess_types.specs.declared.board.man.Colour.{Colour}
use Rattle.chess_types.specs.declared.board.position.Wing.{Wing}
use Rattle.chess_types.specs.board.MoveParts.{MoveParts}
use Rattle.chess_types.specs.board.Men.{opponent}
use Rattle.chess_types.specs.board.Attack.{count, in_check}
use Rattle.chess_types.specs.board.Position.{PositionParts, IsSetup, IsWellFormed, holds, man_on}
use Rattle.chess_types.specs.board.After.{after}
use Rattle.chess_types.specs.board.Legal.{is_legal}
use Rattle.chess_eval.specs.Mirror.{across, IsMirror}
use Rattle.chess_types.specs.board.Lines.{Line}
use Rattle.chess_types.specs.board.Repetition.{repetitions}
use Rattle.chess_types.specs.board.Outcome.{status, claims}
use Rattle.chess_theorems.specs.DeadLaws.{AreListed, is_mate}

-- the same move on the board seen from the other side
abbrev pub turned : MoveParts → MoveParts
turned m = record { from = across m.from; to = across m.to; promo = m.promo }

-- the ranks turned round and the colours exchanged; the number counts Black's moves, and has no mirror
pub record IsTurned (p q : PositionParts) : Type 0 where
  pub board : IsMirror p.placement q.placement
  pub side : q.side ≡ opponent p.side
  pub rights : (c : Colour) (w : Wing) → holds q.rights (opponent c) w ≡ holds p.rights c w
  pub target : q.target ≡ option_map across p.target
  pub clock : q.clock ≡ p.clock

-- each colour attacks each square as often as the other attacks the square across
abbrev pub CountsTurn : Type 0
CountsTurn = (p q : PositionParts) → IsTurned p q → (c : Colour) (s : ℕ) → s < 64 → count (man_on q) (opponent c) (across s) ≡ count (man_on p) c s

-- one king is in check where the other is
abbrev pub ChecksTurn : Type 0
ChecksTurn = (p q : PositionParts) → IsTurned p q → (c : Colour) → in_check (man_on q) (opponent c) ≡ in_check (man_on p) c

-- a move is legal where the turned one is
abbrev pub LegalTurns : Type 0
LegalTurns =
    (p q : PositionParts) → IsSetup p → IsTurned p q → (m : MoveParts) → m.from < 64 → m.to < 64 → is_legal q (turned m) ≡ is_legal p m

-- and both lead to positions of which each is the other one turned
abbrev pub AfterTurns : Type 0
AfterTurns = (p q : PositionParts) → IsSetup p → IsTurned p q → (m : MoveParts) → m.from < 64 → m.to < 64 → IsTurned (after p m) (after q (turned m))

-- mate is mate from either side
abbrev pub MateTurns : Type 0
MateTurns = (p q : PositionParts) → IsSetup p → IsTurned p q → is_mate q ≡ is_mate p

-- the same line from the other side ends as the line does (5.1, 5.2, 9.2, 9.3, 9.6)
abbrev pub LinesTurn : Type 0
LinesTurn =
    (line other : Line) → IsWellFormed line.start → IsTurned line.start other.start → other.moves ≡ map turned line.moves → AreListed line.start line.moves →
    (repetitions other ≡ repetitions line) × (status other ≡ status line) × (claims other ≡ claims line)

-- Without castling, left and right are alike (FIDE Laws, articles 3.1 to 3.9): what becomes of a position whose files are turned round.
--   flip         the square on the same rank, as far from file h as the square is from file a
--   flipped      the move so turned
--   IsFlipped    a position is another one with its files turned round; nobody may castle in either
--   CountsFlip   the attack counts are the turned ones
--   ChecksFlip   a king is in check where it is in the other
--   LegalFlips   the legal moves are the turned ones
--   AfterFlips   and lead to the turned positions
--   MateFlips    it is mate where the other is
use Rattle.std.specs.Prelude.{◌≡◌, ℕ, ◌+◌, ◌-◌, ◌*◌, ◌<◌, false, option_map}
use Rattle.std.specs.List.{Contains}
use Rattle.chess_types.specs.declared.board.man.Colour.{Colour}
use Rattle.chess_types.specs.declared.board.position.Wing.{Wing}
use Rattle.chess_types.specs.board.Squares.{file_of, rank_of}
use Rattle.chess_types.specs.board.MoveParts.{MoveParts}
use Rattle.chess_types.specs.board.Attack.{count, in_check}
use Rattle.chess_types.specs.board.Position.{PositionParts, IsSetup, holds, man_on}
use Rattle.chess_types.specs.board.After.{after}
use Rattle.chess_types.specs.board.Legal.{is_legal, legal_moves}
use Rattle.chess_theorems.specs.DeadLaws.{is_mate}

-- h1 for a1, and a1 for h1
abbrev pub flip : ℕ → ℕ
flip s = 8 * rank_of s + (7 - file_of s)

-- the same move on the board so turned
abbrev pub flipped : MoveParts → MoveParts
flipped m = record { from = flip m.from; to = flip m.to; promo = m.promo }

-- the files turned round; castling knows left from right, so nobody holds a right to it
pub record IsFlipped (p q : PositionParts) : Type 0 where
  pub board : (s : ℕ) → s < 64 → man_on q s ≡ man_on p (flip s)
  pub side : q.side ≡ p.side
  pub none : (c : Colour) (w : Wing) → holds p.rights c w ≡ false
  pub none_there : (c : Colour) (w : Wing) → holds q.rights c w ≡ false
  pub target : q.target ≡ option_map flip p.target
  pub clock : q.clock ≡ p.clock

-- each colour attacks each square as often as the turned one
abbrev pub CountsFlip : Type 0
CountsFlip = (p q : PositionParts) → IsFlipped p q → (c : Colour) (s : ℕ) → s < 64 → count (man_on q) c (flip s) ≡ count (man_on p) c s

-- a king is in check where it is in the other
abbrev pub ChecksFlip : Type 0
ChecksFlip = (p q : PositionParts) → IsFlipped p q → (c : Colour) → in_check (man_on q) c ≡ in_check (man_on p) c

-- a move is legal where the turned one is
abbrev pub LegalFlips : Type 0
LegalFlips =
    (p q : PositionParts) → IsSetup p → IsSetup q → IsFlipped p q → (m : MoveParts) → m.from < 64 → m.to < 64 → is_legal q (flipped m) ≡ is_legal p m

-- and both lead to positions of which each is the other one turned
abbrev pub AfterFlips : Type 0
AfterFlips =
    (p q : PositionParts) → IsSetup p → IsSetup q → IsFlipped p q → (m : MoveParts) → Contains (legal_moves p) m → IsFlipped (after p m) (after q (flipped m))

-- mate is mate from left and right
abbrev pub MateFlips : Type 0
MateFlips = (p q : PositionParts) → IsSetup p → IsSetup q → IsFlipped p q → is_mate q ≡ is_mate p

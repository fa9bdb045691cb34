-- What decides which moves leave the mover's king unattacked: where he stands, the squares that stop a check, those behind him on
-- the lines of the men that check, and which men are pinned. A man who isn't in line with him is not.
use Rattle.std.specs.Prelude.{ℕ, ◌≡◌, ◌<◌, ◌≤◌, Bool, true, not, ◌&&◌, ◌||◌}
use Rattle.std.specs.FinSet.{contains}
use Rattle.chess_types.specs.declared.board.man.Kind.{Kind}
use Rattle.chess_types.specs.declared.board.axis.Axis.TheVariants.{Rank, File, Rising, Falling}
use Rattle.chess_types.specs.board.Squares.{on_axis}
use Rattle.chess_types.specs.board.Men.{is_king_of, opponent}
use Rattle.chess_types.specs.board.Attack.{is_attacked}
use Rattle.chess_types.specs.board.Position.{PositionParts, man_on, cell_of}
use Rattle.chess_attack.specs.Pins.{is_pinned, permits}
use Rattle.chess_attack.specs.steps.PinHalves.{round, shaded_on}
use Rattle.chess_moves.specs.declared.guard.CheckInfo.{CheckInfo}

-- what decides which moves leave the mover's king unattacked
pub record IsGuard (guard : CheckInfo) (p : PositionParts) : Type 0 where
  pub on_board : guard.king < 64
  pub king : is_king_of p.side (man_on p guard.king) ≡ true
  pub check_mask : (to : ℕ) → to < 64 → contains guard.check_mask to ≡ permits (man_on p) p.side guard.king to
  pub xray_squares : (to : ℕ) → to < 64 → contains guard.xray_squares to ≡ round (shaded_on (man_on p) p.side guard.king to)
  pub pinned : (s : ℕ) → s < 64 → contains guard.pinned s ≡ is_pinned (man_on p) p.side s

-- a man of the kind, and of the side to move, stands on the square, his king has that guard, and the counters may grow
pub record StandsGuarded (p : PositionParts) (info : CheckInfo) (kind : Kind) (from : ℕ) : Type 0 where
  pub here : man_on p from ≡ cell_of p.side kind
  pub guard : IsGuard info p
  pub clock : p.clock ≤ 1000000
  pub number : p.number ≤ 1000000

-- the king isn't attacked on the square to which he steps from his own: the other side doesn't attack it now, and it has no shade
abbrev pub is_safe_step : PositionParts → ℕ → ℕ → Bool
is_safe_step p king to = not (is_attacked (man_on p) (opponent p.side) to) && not (round (shaded_on (man_on p) p.side king to))

-- both squares are on one rank, one file or one diagonal
unfoldable pub in_line : ℕ → ℕ → Bool
in_line a b = on_axis Rank a b || on_axis File a b || on_axis Rising a b || on_axis Falling a b

-- Where a move may begin.
--   Comes       a set has the square where each legal move of a man of the kind to the target begins
--   ComesBy     the same of the legal moves that a form names
--   legal_and   a move passes a test, and is legal
--   BeginsAmong the same of those that another set has
--   from_each   the moves from some squares to one
--   Begins      a set has exactly the squares where a move to the target begins that passes the test and is legal
use Rattle.std.specs.Prelude.{ℕ, ◌≡◌, ◌<◌, Bool, true, ◌&&◌, List, map, Option}
use Rattle.std.specs.Ordering.{nat_cmp}
use Rattle.std.specs.FinSet.{FinSet, contains}
use Rattle.chess_types.specs.declared.board.man.Kind.{Kind}
use Rattle.chess_types.specs.board.MoveParts.{MoveParts}
use Rattle.chess_types.specs.board.Position.{PositionParts, man_on}
use Rattle.chess_types.specs.board.Legal.{is_legal}
use Rattle.chess_moves.specs.steps.Targets.{move_to}
use Rattle.chess_san.specs.declared.form.Form.{Form}
use Rattle.chess_san.specs.Naming.{is_kind, names}

-- each legal move of the kind to the square begins on one of the set
abbrev pub Comes : FinSet nat_cmp → PositionParts → Kind → ℕ → Type 0
Comes set p k to = (m : MoveParts) → m.from < 64 → m.to ≡ to → is_legal p m ≡ true → is_kind k (man_on p m.from) ≡ true → contains set m.from ≡ true

-- each legal move that the form names begins on one of the set
abbrev pub ComesBy : FinSet nat_cmp → PositionParts → Form → Type 0
ComesBy set p form = (m : MoveParts) → m.from < 64 → is_legal p m ≡ true → names p form m ≡ true → contains set m.from ≡ true

-- legal, and passes the test
abbrev pub legal_and : (MoveParts → Bool) → PositionParts → MoveParts → Bool
legal_and test p m = test m && is_legal p m

-- each legal move to the square that passes the test begins on one of the set
abbrev pub Begins : FinSet nat_cmp → (MoveParts → Bool) → PositionParts → ℕ → Option Kind → Type 0
Begins set test p to promo = (from : ℕ) → from < 64 → contains set from ≡ legal_and test p (move_to from to promo)

-- the moves from those squares to one target
abbrev pub from_each : ℕ → Option Kind → List ℕ → List MoveParts
from_each to promo xs = map (λ a. move_to a to promo) xs

-- the same of the moves that begin on one of the squares
abbrev pub BeginsAmong : FinSet nat_cmp → FinSet nat_cmp → (MoveParts → Bool) → PositionParts → ℕ → Option Kind → Type 0
BeginsAmong all set test p to promo = (from : ℕ) → from < 64 → contains set from ≡ (contains all from && legal_and test p (move_to from to promo))

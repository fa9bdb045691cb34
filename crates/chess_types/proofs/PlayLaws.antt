-- A line with one move more.
use Rattle.std.proofs.Common.{◌≡◌, List, [], ◌∷◌, ◌++◌, refl, ap}
use Rattle.chess_types.specs.board.MoveParts.{MoveParts}
use Rattle.chess_types.specs.board.Position.{PositionParts}
use Rattle.chess_types.specs.board.After.{after}
use Rattle.chess_types.specs.board.Lines.{Line, extended, last, play, positions_from}

-- the position after one move more
pub play_on : (p : PositionParts) (ms : List MoveParts) (m : MoveParts) → play p (ms ++ m ∷ []) ≡ after (play p ms) m
play_on p [] m = refl
play_on p (n ∷ ms) m = play_on (after p n) ms m

-- the positions, and one more
pub positions_on : (p : PositionParts) (ms : List MoveParts) (m : MoveParts) → positions_from p (ms ++ m ∷ []) ≡ positions_from p ms ++ after (play p ms) m ∷ []
positions_on p [] m = refl
positions_on p (n ∷ ms) m = ap (λ (rest : List PositionParts). p ∷ rest) (positions_on (after p n) ms m)

-- its last position
pub last_extended : (line : Line) (m : MoveParts) → last (extended line m) ≡ after (last line) m
unfolding last
last_extended line m = play_on line.start line.moves m

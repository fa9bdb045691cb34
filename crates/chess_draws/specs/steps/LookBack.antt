-- The look back along a line.
--   position_at   the position after the first `k` of some moves
--   came_back     how many of the positions 2, 4 .. 2 * n plies back are the same as the last one
--   IsStep        one man has gone to a square that was empty, and nothing else has changed
--   IsTrack       the plies are those of a line, what is kept is of its last position, and since a place no pawn has moved and
--                 nothing was captured
--   AreMenAt      the men at a place, if the castling rights there are those of the last position
--   IsBehind      what a look back that has come to a place knows
use Rattle.std.specs.Prelude.{◌≡◌, ◌≢◌, ℕ, zero, suc, ◌+◌, ◌-◌, ◌*◌, ◌≤◌, true, cond, List, None, is_some, length, map, take}
use Rattle.chess_types.specs.board.Board.{Men}
use Rattle.chess_types.specs.board.MoveParts.{MoveParts}
use Rattle.chess_types.specs.board.Position.{PositionParts, IsSetup, man_on}
use Rattle.chess_types.specs.board.Lines.{play}
use Rattle.chess_types.specs.board.Repetition.{is_same, same_rights}
use Rattle.chess_types.specs.steps.KeptSets.{Gathers}
use Rattle.chess_draws.specs.declared.look_back.Behind.{Behind}
use Rattle.chess_draws.specs.declared.men.MenSets.{MenSets}
use Rattle.chess_draws.specs.steps.KeptPlies.{PlyParts}
use Rattle.chess_draws.specs.declared.repetition_key.RepetitionKey.{RepetitionKey}
use Rattle.chess_draws.specs.steps.RepetitionKeys.{IsMenOf, IsKeyOf}
use Rattle.chess_draws.specs.steps.Plies.{ArePlies, move_of}

-- the position after the first k moves
abbrev pub position_at : PositionParts → List MoveParts → ℕ → PositionParts
position_at start ms k = play start (take k ms)

-- how often the last position came up before, 2, 4 .. 2 * n plies back
abbrev pub came_back : PositionParts → List MoveParts → ℕ → ℕ
came_back start ms zero = 0
came_back start ms (suc n) = came_back start ms n + cond (is_same (play start ms) (position_at start ms (length ms - 2 * suc n))) 1 0

-- a man has gone to a square that was empty, and every other square is as before
pub record IsStep (before after : Men) (m : MoveParts) : Type 0 where
  pub some : is_some (before m.from) ≡ true
  pub free : before m.to ≡ None
  pub left : after m.from ≡ None
  pub there : after m.to ≡ before m.from
  pub elsewhere : (s : ℕ) → s ≢ m.from → s ≢ m.to → after s ≡ before s

-- The plies are those of a line from there, what is kept is of its last position, and by its halfmove clock (9.3) no pawn has moved
-- and nothing was captured since the first k plies.
pub record IsTrack (start : PositionParts) (plies : List PlyParts) (here : RepetitionKey) (k : ℕ) : Type 0 where
  pub setup : IsSetup start
  pub are_plies : ArePlies start plies
  pub here_is : IsKeyOf here (play start (map move_of plies))
  pub quiet : length plies ≤ k + (play start (map move_of plies)).clock

-- the men are those after the first k plies, if nobody has lost a right since: nobody has castled then
abbrev pub AreMenAt : PositionParts → List PlyParts → RepetitionKey → MenSets → ℕ → Type 0
AreMenAt start plies here men k =
    same_rights here.rights (position_at start (map move_of plies) k).rights ≡ true → IsMenOf men (man_on (position_at start (map move_of plies) k))

-- what is known of the position after the first k plies, and of a later one
pub record IsBehind (start : PositionParts) (plies : List PlyParts) (here : RepetitionKey) (behind : Behind) (k : ℕ) : Type 0 where
  pub side : (position_at start (map move_of plies) k).side ≡ here.side
  pub occupied : same_rights here.rights (position_at start (map move_of plies) k).rights ≡ true →
      Gathers behind.occupied is_some (man_on (position_at start (map move_of plies) k))
  pub men : AreMenAt start plies here behind.men behind.known

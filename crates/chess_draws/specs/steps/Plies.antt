-- What is kept of the moves of a line.
--   IsPly      it is that of a legal move in a position
--   FitsPly    a position is the one after its move
--   ArePlies   they are those of the line from there
--   IsLine     what holds of a line at every moment, whichever of its moves are only looked at
--   IsHeld     its plies, and those that are only looked at
use Rattle.std.specs.Prelude.{◌≡◌, ◌<◌, ◌≤◌, true, ⊤, List, [], ◌∷◌, ◌++◌, length, map}
use Rattle.chess_types.specs.board.MoveParts.{MoveParts}
use Rattle.chess_types.specs.board.Position.{PositionParts, IsWellFormed}
use Rattle.chess_types.specs.board.After.{after}
use Rattle.chess_types.specs.board.Legal.{is_legal}
use Rattle.chess_types.specs.board.Lines.{play}
use Rattle.chess_types.specs.board.Repetition.{counting_target}
use Rattle.chess_play.specs.LiveParts.{LiveParts}
use Rattle.chess_play.specs.Records.{record_of, IsBefore}
use Rattle.chess_draws.specs.steps.KeptPlies.{PlyParts}
use Rattle.chess_draws.specs.declared.repetition_key.RepetitionKey.{RepetitionKey}
use Rattle.chess_draws.specs.steps.RepetitionKeys.{IsKeyOf}
use Rattle.chess_draws.specs.Pushes.{most_plies}

-- the ply is that of a legal move in the position, between squares of the board
pub record IsPly (p : PositionParts) (ply : PlyParts) : Type 0 where
  pub target : ply.target ≡ counting_target p
  pub past : ply.past ≡ record_of p ply.past.played
  pub from : ply.past.played.from < 64
  pub to : ply.past.played.to < 64
  pub legal : is_legal p ply.past.played ≡ true

-- the position is the one after the ply's move
pub record FitsPly (now : PositionParts) (ply : PlyParts) : Type 0 where
  pub before : PositionParts
  pub is_before : IsBefore now ply.past before
  pub target : ply.target ≡ counting_target before

-- each ply is that of a move in the position to which the plies before it lead
abbrev pub ArePlies : PositionParts → List PlyParts → Type 0
ArePlies p [] = ⊤
ArePlies p (ply ∷ plies) = IsPly p ply × ArePlies (after p ply.past.played) plies

-- the move of a ply
abbrev pub move_of : PlyParts → MoveParts
move_of ply = ply.past.played

-- the position in which the line begins is well formed, with the counters of a FEN; each ply has a legal move; what is kept of
-- the last position is that after all of them
pub record IsLine (start : PositionParts) (plies : List PlyParts) (live : LiveParts) (here : RepetitionKey) : Type 0 where
  pub well_formed : IsWellFormed start
  pub clock : start.clock ≤ 99999
  pub number : start.number ≤ 99999
  pub are_plies : ArePlies start plies
  pub last_is : live.position ≡ play start (map move_of plies)
  pub here_is : IsKeyOf here live.position

-- at most 20,000 plies, and at most 16 more that are only looked at
pub record IsHeld (start : PositionParts) (plies looked : List PlyParts) (live : LiveParts) (here : RepetitionKey) : Type 0 where
  pub line : IsLine start (plies ++ looked) live here
  pub few : length plies ≤ most_plies
  pub ahead : length looked ≤ 16

-- How a game ended, by the Laws (FIDE Laws, articles 5.1, 5.2, 9.2, 9.3 and 9.6; PGN 8.2.6).
--   ended_by         from the last position's status and who has mated
--   has_claim        a draw may be claimed in it
--   outcome_by_laws  of a line, with the draws that may be claimed or without
use Rattle.std.specs.Prelude.{◌||◌, ◌&&◌, if◌then◌else◌, Bool, Option, Some, None}
use Rattle.chess_types.specs.declared.board.man.Colour.{Colour}
use Rattle.chess_types.specs.declared.board.man.Colour.TheVariants.{White, Black}
use Rattle.chess_types.specs.declared.board.outcome.Status.{Status}
use Rattle.chess_types.specs.declared.board.outcome.Status.TheVariants.{Mate, Play}
use Rattle.chess_types.specs.board.Lines.{Line, last}
use Rattle.chess_types.specs.board.Outcome.{claims, status, winner}
use Rattle.chess_items.specs.declared.outcome.Outcome.{Outcome}
use Rattle.chess_items.specs.declared.outcome.Outcome.TheVariants.{WhiteWins, BlackWins, Draw, Unfinished}

-- the winner's, where there is mate; open, where the game goes on; else a draw
abbrev pub ended_by : Status → Option Colour → Outcome
ended_by Play won = Unfinished
ended_by Mate None = Unfinished
ended_by Mate (Some White) = WhiteWins
ended_by Mate (Some Black) = BlackWins
ended_by _ won = Draw

-- by repetition or by fifty moves (9.2, 9.3)
abbrev pub has_claim : Line → Bool
has_claim line = (claims line).threefold || (claims line).fifty

-- a draw that may be claimed counts only where claims do
abbrev pub outcome_by_laws : (with_claims : Bool) → Line → Outcome
outcome_by_laws with_claims line = if with_claims && has_claim line then Draw else ended_by (status line) (winner (last line))

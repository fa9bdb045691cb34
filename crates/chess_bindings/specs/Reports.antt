-- What the Laws say of a game's main line, as a caller gets it: numbers.
--   never          the number of a ply that isn't there
--   ply_code       a ply, or that there is none
--   marker_code    the marker at a game's end: 0 for `*`, 1 for `1-0`, 2 for `0-1`, 3 for `1/2-1/2`
--   winner_code    the side that has mated: 0 for none, 1 for White, 2 for Black
--   why_of         why a game is over, or that it goes on
--   why_code       why a line was over at a ply, as a status
--   report_code    the report of a game
--   IsReport       of a text: the report of the game at its start and the FEN of its last position are written, with the number of the bytes that the
--                  game takes; or there is none
use Rattle.std.specs.Prelude.{◌≡◌, ◌⊎◌, ℕ, List, length, Option, Some, None}
use Rattle.chess_types.specs.declared.board.man.Colour.{Colour}
use Rattle.chess_types.specs.declared.board.man.Colour.TheVariants.{White, Black}
use Rattle.chess_types.specs.declared.board.outcome.Status.{Status}
use Rattle.chess_types.specs.declared.board.outcome.Status.TheVariants.{Play}
use Rattle.chess_types.specs.board.Lines.{Line, last}
use Rattle.chess_types.specs.board.Outcome.{status, winner}
use Rattle.chess_fen.specs.Writing.{written}
use Rattle.chess_items.specs.declared.outcome.Outcome.{Outcome}
use Rattle.chess_items.specs.declared.outcome.Outcome.TheVariants.{WhiteWins, BlackWins, Draw, Unfinished}
use Rattle.chess_pgn.specs.Games.{Game}
use Rattle.chess_pgn.specs.Reading.{BeginsWithGame}
use Rattle.chess_report.specs.declared.report.Over.{Over}
use Rattle.chess_report.specs.MainLine.{as_far, main}
use Rattle.chess_report.specs.Findings.{agrees, first_fifty, first_over, first_threefold, longest_quiet, most_repetitions}
use Rattle.chess_bindings.specs.declared.reports.GameReport.{GameReport}
use Rattle.chess_bindings.specs.Codes.{outcome_code}
use Rattle.chess_bindings.specs.Games.{IsNone}
use Rattle.chess_bindings.specs.Handed.{IsHanded}

-- no ply of a game
abbrev pub never : ℕ
never = 4294967295

-- a ply, or that there is none
abbrev pub ply_code : Option ℕ → ℕ
ply_code (Some ply) = ply
ply_code None = never

-- the marker at a game's end (PGN 8.2.6)
abbrev pub marker_code : Outcome → ℕ
marker_code Unfinished = 0
marker_code WhiteWins = 1
marker_code BlackWins = 2
marker_code Draw = 3

-- the side that has mated the other (FIDE Laws 1.4.1)
abbrev pub winner_code : Option Colour → ℕ
winner_code None = 0
winner_code (Some White) = 1
winner_code (Some Black) = 2

-- why a game is over, or that it goes on
abbrev pub why_of : Option Over → Status
why_of (Some over) = over.why
why_of None = Play

-- why the line was over at that ply; that it goes on, where it never was
abbrev pub why_code : Line → Option ℕ → ℕ
why_code line (Some ply) = outcome_code (status (as_far ply line))
why_code line None = outcome_code Play

-- the report of a main line that ends with that marker
abbrev pub line_report : Line → Outcome → GameReport
line_report line marker = record {
  plies = length line.moves;
  marker = marker_code marker;
  status = outcome_code (status line);
  winner = winner_code (winner (last line));
  over = ply_code (first_over line);
  why = why_code line (first_over line);
  threefold = ply_code (first_threefold line);
  fifty = ply_code (first_fifty line);
  repetitions = most_repetitions line;
  quiet = longest_quiet line;
  agrees = agrees line marker;
}

-- the report of a game
abbrev pub report_code : Game → GameReport
report_code game = line_report (main game.tree) game.outcome

-- the report of the game at the start of the text, and the FEN of its last position
abbrev pub IsReported : List ℕ → (code count' used' : ℕ) → (report' : GameReport) → (room room' : List ℕ) → Type 0
IsReported text code count' used' report' room room' =
    (game : Game) × BeginsWithGame text game used' × (report' ≡ report_code game) × IsHanded (written (last (main game.tree))) code count' room room'

-- what is answered of the report of the game at the start of a text
abbrev pub IsReport : List ℕ → (code count count' used used' : ℕ) → (report report' : GameReport) → (room room' : List ℕ) → Type 0
IsReport text code count count' used used' report report' room room' =
    IsReported text code count' used' report' room room'
    ⊎ ((count' ≡ count) × (report' ≡ report) × (room' ≡ room) × IsNone text code used used')

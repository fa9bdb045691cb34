-- What a report's fields say in a row.
--   is_unended    the board says that the game is over, and its marker doesn't
--   move_by       the number of the move that leads to a ply, counted from the start
--   report_cells  what a report says
--   is_finding    something is wrong with the game
--   IsReportOf    a report is that of a game
use Rattle.std.specs.Prelude.{◌≡◌, ℕ, zero, suc, ◌+◌, ◌/◌, Bool, not, ◌||◌, ◌&&◌, is_some, List, [], ◌∷◌, length, codes, Option, Some, None, option_map, IfSome}
use Rattle.chess_types.specs.board.Lines.{last}
use Rattle.chess_types.specs.board.Men.{colour_number}
use Rattle.chess_types.specs.board.Outcome.{is_play, status, winner, status_text}
use Rattle.chess_types.specs.board.Position.{PositionParts}
use Rattle.chess_collection.specs.Headings.{Heading}
use Rattle.chess_pgn.specs.Games.{Game, Tags, tag_value}
use Rattle.chess_items.specs.Markers.{outcome_text}
use Rattle.chess_report.specs.MainLine.{as_far, main}
use Rattle.chess_report.specs.Findings.{agrees, is_open, first_fifty, first_over, first_threefold, longest_quiet, most_repetitions, played_on}
use Rattle.chess_report.specs.declared.report.Report.{Report}
use Rattle.arbiter.specs.Cells.{Cell, Number, Text, Truth, maybe}
use Rattle.arbiter.specs.Rows.{colour_text, fen_tag, is_another, is_changed, is_other_variant, start_text, wins_bare}

-- its last position ends the game, and its marker is open
abbrev pub is_unended : Report → Bool
is_unended report = is_open report.marker && not (is_play report.status)

-- the number of the move that is made after `plies` others: White and Black move in turn, and a move of White and the next of Black have one number
abbrev pub number_of_move : PositionParts → ℕ → ℕ
number_of_move start plies = start.number + (plies + colour_number start.side) / 2

-- of the one that leads to a ply, by the start of the line
abbrev pub move_by : PositionParts → Option ℕ → Option ℕ
move_by start None = None
move_by start (Some zero) = None
move_by start (Some (suc plies)) = Some (number_of_move start plies)

-- what a report of a game with that start says, whose first and last positions have those FENs
abbrev pub report_cells : Report → PositionParts → List ℕ → List ℕ → Heading → Option Bool → List Cell
report_cells report start first fen heading unmarked =
    (codes "start_fen", maybe Text (start_text first))
    ∷ (codes "fen_changed", Truth (is_changed (fen_tag heading) start))
    ∷ (codes "plies", Number report.plies)
    ∷ (codes "result", Text (outcome_text report.marker))
    ∷ (codes "result_tag", maybe Text heading.result)
    ∷ (codes "other_result", Truth (is_another heading.result report.marker))
    ∷ (codes "no_marker", maybe Truth unmarked)
    ∷ (codes "status", Text (status_text report.status))
    ∷ (codes "winner", maybe Text (option_map colour_text report.winner))
    ∷ (codes "over_ply", maybe Number (option_map (λ o. o.ply) (played_on report.over report.plies)))
    ∷ (codes "over_move", maybe Number (move_by start (option_map (λ o. o.ply) (played_on report.over report.plies))))
    ∷ (codes "over_why", maybe Text (option_map (λ o. status_text o.why) (played_on report.over report.plies)))
    ∷ (codes "threefold_ply", maybe Number report.threefold)
    ∷ (codes "threefold_move", maybe Number (move_by start report.threefold))
    ∷ (codes "fifty_ply", maybe Number report.fifty)
    ∷ (codes "fifty_move", maybe Number (move_by start report.fifty))
    ∷ (codes "repetitions", Number report.repetitions)
    ∷ (codes "quiet", Number report.quiet)
    ∷ (codes "agrees", Truth report.agrees)
    ∷ (codes "left_open", Truth (is_unended report))
    ∷ (codes "bare_king_wins", Truth (wins_bare report.last report.marker))
    ∷ (codes "fen", Text fen)
    ∷ []

-- something is wrong with the game that has those tags and that start
abbrev pub is_finding : Tags → Report → PositionParts → Heading → (unmarked : Bool) → Bool
is_finding tags report start heading unmarked =
    is_some (played_on report.over report.plies) || not report.agrees || is_unended report || wins_bare report.last report.marker
    || is_other_variant (tag_value (codes "Variant") tags)
    || is_another heading.result report.marker || unmarked || is_changed (fen_tag heading) start

-- a report is that of a game
pub record IsReportOf (report : Report) (game : Game) : Type 0 where
  pub plies : report.plies ≡ length (main game.tree).moves
  pub marker : report.marker ≡ game.outcome
  pub stands : report.status ≡ status (main game.tree)
  pub mates : report.winner ≡ winner (last (main game.tree))
  pub over : option_map (λ o. o.ply) report.over ≡ first_over (main game.tree)
  pub why : IfSome report.over (λ o. o.why ≡ status (as_far o.ply (main game.tree)))
  pub threefold : report.threefold ≡ first_threefold (main game.tree)
  pub fifty : report.fifty ≡ first_fifty (main game.tree)
  pub repetitions : report.repetitions ≡ most_repetitions (main game.tree)
  pub quiet : report.quiet ≡ longest_quiet (main game.tree)
  pub fits : report.agrees ≡ agrees (main game.tree) game.outcome
  pub end : report.last ≡ last (main game.tree)

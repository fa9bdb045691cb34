-- What a row says of a game, and of one that can't be read (docs/FORMATS.md has the columns). What the Laws say of a main line is in `chess_report`.
--   over_early        the first ply at which a game was over, if moves follow it
--   move_leading_to   the number of the move that leads to a ply
--   start_text        the FEN of the position in which a game begins, where it is another than the usual one
--   is_left_open      the board says that the game is over, and its marker doesn't
--   wins_bare         the marker is a win of a side that has only its king
--   is_other_variant  a Variant tag names another game than chess
--   is_another        a Result tag says another result than the marker
--   is_unmarked       a game has no marker
--   fen_tag           the FEN that the tags give, where they don't say that the game begins in the usual position
--   gives_start       the fields of a FEN give the castling rights and the target that a position has, as FEN is read: rights by letters in any order
--   is_changed        it gives other castling rights, or another target, than the position has
--   has_finding       moves follow after the game was over; or its marker disagrees with the board, leaves it open or is a win of a king alone; or it is a
--                     game of another variant; or it has no marker, or another than its Result tag; or its FEN is changed
--   Roster            what tags say of who played, where and when; roster_in, those of a game; IsRosterOf, those of a text
--   game_cells        the row of a game, or of the game that one which can't be read is repaired to
--   fault_cells       the row of one that can't be read, and isn't repaired
--   column_names      the names of the columns
use Rattle.std.specs.Prelude.{ℕ, zero, suc, nat_eq, nat_lt, Bool, false, not, ◌||◌, ◌&&◌, bytes_eq, if◌then◌else◌, is_some, List, [], ◌∷◌, ◌++◌, length, codes, Option, Some, None, option_map}
use Rattle.chess_types.specs.declared.board.man.Colour.{Colour}
use Rattle.chess_types.specs.declared.board.man.Colour.TheVariants.{White, Black}
use Rattle.std.specs.List.{ends_with}
use Rattle.std.specs.Str.{str_eq_ignore_ascii_case}
use Rattle.chess_types.specs.declared.board.outcome.Status.{Status}
use Rattle.chess_types.specs.board.Mating.{is_bare}
use Rattle.chess_types.specs.board.Position.{PositionParts}
use Rattle.chess_types.specs.board.Lines.{Line, last}
use Rattle.chess_types.specs.board.Repetition.{same_rights}
use Rattle.chess_types.specs.board.Outcome.{status, status_text, winner}
use Rattle.byte_streams.specs.Words.{words}
use Rattle.chess_fen.specs.Reading.{rights_of}
use Rattle.chess_fen.specs.Writing.{target_text, written}
use Rattle.chess_items.specs.declared.fault.PgnFault.{PgnFault}
use Rattle.chess_items.specs.Faults.{name_of}
use Rattle.chess_items.specs.declared.outcome.Outcome.{Outcome}
use Rattle.chess_items.specs.declared.outcome.Outcome.TheVariants.{WhiteWins, BlackWins}
use Rattle.chess_collection.specs.Headings.{Heading, IsThreeOf}
use Rattle.chess_pgn.specs.Games.{Game, Tags, tag_value}
use Rattle.chess_pgn.specs.Tags.{is_usual}
use Rattle.chess_items.specs.Markers.{outcome_text}
use Rattle.chess_report.specs.MainLine.{as_far, main}
use Rattle.chess_report.specs.Findings.{agrees, is_open, is_over, first_fifty, first_over, first_threefold, longest_quiet, most_repetitions}
use Rattle.arbiter.specs.Cells.{Cell, Number, Text, Truth, Nothing, maybe}

-- ---- what a row says

-- the word of a side
abbrev pub colour_text : Colour → List ℕ
colour_text White = codes "white"
colour_text Black = codes "black"

-- a ply before the last
abbrev pub early : Option ℕ → ℕ → Option ℕ
early None plies = None
early (Some ply) plies = if nat_lt ply plies then Some ply else None

-- the first ply at which the game was over, if moves follow it
abbrev pub over_early : Line → Option ℕ
over_early line = early (first_over line) (length line.moves)

-- its status there
abbrev pub why_early : Line → Option Status
why_early line = option_map (λ ply. status (as_far ply line)) (over_early line)

-- the number of the move that leads to a ply, by the position in which it is made (PGN 8.2.2, 16.1.3.6); none leads to ply 0
abbrev pub move_leading_to : Line → Option ℕ → Option ℕ
move_leading_to line None = None
move_leading_to line (Some zero) = None
move_leading_to line (Some (suc ply)) = Some (last (as_far ply line)).number

-- the FEN of the position in which a game usually begins (PGN 16.1.4)
abbrev pub usual_fen : List ℕ
usual_fen = codes "rnbqkbnr/pppppppp/8/8/8/8/PPPPPPPP/RNBQKBNR w KQkq - 0 1"

-- a FEN but that one
abbrev pub start_text : List ℕ → Option (List ℕ)
start_text fen = if bytes_eq fen usual_fen then None else Some fen

-- the last position ends the game (5.1.1, 5.2.1, 5.2.2, 9.6), and the marker is `*`, or there is none
abbrev pub is_left_open : Line → Outcome → Bool
is_left_open line marker = is_open marker && is_over line

-- the marker is a win of a side that has only its king: it can mate by no series of legal moves, so the game is drawn where the other side's time runs
-- out (6.9); the other side may have resigned (5.1.2)
abbrev pub wins_bare : PositionParts → Outcome → Bool
wins_bare p WhiteWins = is_bare p White
wins_bare p BlackWins = is_bare p Black
wins_bare p _ = false

-- the names that programs have for chess in a Variant tag, capital or small; `?` and an empty value name no game
abbrev pub is_chess : List ℕ → Bool
is_chess name =
    str_eq_ignore_ascii_case name (codes "standard") || str_eq_ignore_ascii_case name (codes "chess") || str_eq_ignore_ascii_case name (codes "normal")
    || str_eq_ignore_ascii_case name (codes "classical") || str_eq_ignore_ascii_case name (codes "from position") || str_eq_ignore_ascii_case name (codes "?")
    || str_eq_ignore_ascii_case name []

-- another name; none says nothing
abbrev pub is_other_variant : Option (List ℕ) → Bool
is_other_variant None = false
is_other_variant (Some name) = not (is_chess name)

-- the value of the Result tag is the marker's (PGN 8.1.1.7); no tag says nothing
abbrev pub is_another : Option (List ℕ) → Outcome → Bool
is_another None marker = false
is_another (Some value) marker = not (bytes_eq value (outcome_text marker))

-- the result is unknown, and the bytes of the game don't end with the marker that says so (PGN 8.2.6)
abbrev pub is_unmarked : List ℕ → Outcome → Bool
is_unmarked bytes marker = is_open marker && not (ends_with nat_eq bytes (codes "*"))

-- the value of the tag FEN, unless SetUp says that the game begins in the usual position (PGN 9.7.1, 9.7.2)
abbrev pub fen_tag : Heading → Option (List ℕ)
fen_tag heading = if is_usual heading.set_up then None else heading.fen

-- the third field of a FEN gives the castling rights that the position has (PGN 16.1.3.3), and the fourth its target (PGN 16.1.3.4); fewer fields give neither
abbrev pub gives_start : List (List ℕ) → PositionParts → Bool
gives_start (placement ∷ side ∷ castling ∷ target ∷ counters) p = same_rights (rights_of castling) p.rights && bytes_eq target (target_text p.target)
gives_start _ p = false

-- its fields, which spaces separate as in FEN, give castling rights or a target that the position doesn't have; without a tag, nothing is changed
abbrev pub is_changed : Option (List ℕ) → PositionParts → Bool
is_changed None p = false
is_changed (Some given) p = not (gives_start (words (codes " ") given) p)

-- moves follow after the game was over; or its marker disagrees with the board, leaves open what the board ends, or is a win of a king alone; or it is a
-- game of another variant, whose rules these aren't; or it has no marker, or another than its Result tag; or its FEN is changed
abbrev pub has_finding : Game → Heading → (unmarked : Bool) → Bool
has_finding game heading unmarked =
    is_some (over_early (main game.tree)) || not (agrees (main game.tree) game.outcome) || is_left_open (main game.tree) game.outcome
    || wins_bare (last (main game.tree)) game.outcome || is_other_variant (tag_value (codes "Variant") game.tags)
    || is_another heading.result game.outcome || unmarked || is_changed (fen_tag heading) game.tree.start

-- ---- the cells

-- which game it is, and where it begins
abbrev pub place_cells : ℕ → ℕ → List Cell
place_cells number offset = (codes "number", Number number) ∷ (codes "offset", Number offset) ∷ []

-- what tags say of who played, where and when
pub record Roster : Type 0 where
  pub white : Option (List ℕ)
  pub black : Option (List ℕ)
  pub white_elo : Option (List ℕ)
  pub black_elo : Option (List ℕ)
  pub event : Option (List ℕ)
  pub site : Option (List ℕ)
  pub date : Option (List ℕ)
  pub round : Option (List ℕ)
  pub variant : Option (List ℕ)

-- those of a game
abbrev pub roster_in : Tags → Roster
roster_in tags = record {
  white = tag_value (codes "White") tags;
  black = tag_value (codes "Black") tags;
  white_elo = tag_value (codes "WhiteElo") tags;
  black_elo = tag_value (codes "BlackElo") tags;
  event = tag_value (codes "Event") tags;
  site = tag_value (codes "Site") tags;
  date = tag_value (codes "Date") tags;
  round = tag_value (codes "Round") tags;
  variant = tag_value (codes "Variant") tags;
}

-- those of a text of which no game is read
pub record IsRosterOf (text : List ℕ) (roster : Roster) : Type 0 where
  pub players : IsThreeOf text (codes "White") (codes "Black") (codes "Variant") (record { first = roster.white; second = roster.black; third = roster.variant })
  pub ratings : IsThreeOf text (codes "WhiteElo") (codes "BlackElo") (codes "Round") (record { first = roster.white_elo; second = roster.black_elo; third = roster.round })
  pub event : IsThreeOf text (codes "Event") (codes "Site") (codes "Date") (record { first = roster.event; second = roster.site; third = roster.date })

-- their cells, and whether the game is another than chess
abbrev pub roster_cells : Roster → List Cell
roster_cells roster =
    (codes "white", maybe Text roster.white)
    ∷ (codes "black", maybe Text roster.black)
    ∷ (codes "white_elo", maybe Text roster.white_elo)
    ∷ (codes "black_elo", maybe Text roster.black_elo)
    ∷ (codes "event", maybe Text roster.event)
    ∷ (codes "site", maybe Text roster.site)
    ∷ (codes "date", maybe Text roster.date)
    ∷ (codes "round", maybe Text roster.round)
    ∷ (codes "variant", maybe Text roster.variant)
    ∷ (codes "other_variant", Truth (is_other_variant roster.variant))
    ∷ []

-- what the Laws say of its main line, and what its text says of its start and its end; whether it has a marker is known only of a game that can be read
abbrev pub line_cells : Line → Outcome → Heading → Option Bool → List Cell
line_cells line marker heading unmarked =
    (codes "start_fen", maybe Text (start_text (written line.start)))
    ∷ (codes "fen_changed", Truth (is_changed (fen_tag heading) line.start))
    ∷ (codes "plies", Number (length line.moves))
    ∷ (codes "result", Text (outcome_text marker))
    ∷ (codes "result_tag", maybe Text heading.result)
    ∷ (codes "other_result", Truth (is_another heading.result marker))
    ∷ (codes "no_marker", maybe Truth unmarked)
    ∷ (codes "status", Text (status_text (status line)))
    ∷ (codes "winner", maybe Text (option_map colour_text (winner (last line))))
    ∷ (codes "over_ply", maybe Number (over_early line))
    ∷ (codes "over_move", maybe Number (move_leading_to line (over_early line)))
    ∷ (codes "over_why", maybe Text (option_map status_text (why_early line)))
    ∷ (codes "threefold_ply", maybe Number (first_threefold line))
    ∷ (codes "threefold_move", maybe Number (move_leading_to line (first_threefold line)))
    ∷ (codes "fifty_ply", maybe Number (first_fifty line))
    ∷ (codes "fifty_move", maybe Number (move_leading_to line (first_fifty line)))
    ∷ (codes "repetitions", Number (most_repetitions line))
    ∷ (codes "quiet", Number (longest_quiet line))
    ∷ (codes "agrees", Truth (agrees line marker))
    ∷ (codes "left_open", Truth (is_left_open line marker))
    ∷ (codes "bare_king_wins", Truth (wins_bare (last line) marker))
    ∷ (codes "fen", Text (written (last line)))
    ∷ []

-- a cell without a value for each name
abbrev pub empty_cells : List (List ℕ) → List Cell
empty_cells [] = []
empty_cells (name ∷ names) = (name, Nothing) ∷ empty_cells names

-- the columns of what tags say
abbrev pub roster_names : List (List ℕ)
roster_names =
    codes "white" ∷ codes "black" ∷ codes "white_elo" ∷ codes "black_elo" ∷ codes "event" ∷ codes "site" ∷ codes "date" ∷ codes "round"
    ∷ codes "variant" ∷ codes "other_variant" ∷ []

-- those of a game that one which can't be read hasn't, before the one of the tag Result
abbrev pub early_names : List (List ℕ)
early_names = codes "start_fen" ∷ codes "fen_changed" ∷ codes "plies" ∷ codes "result" ∷ []

-- those after it
abbrev pub late_names : List (List ℕ)
late_names =
    codes "other_result" ∷ codes "no_marker" ∷ codes "status" ∷ codes "winner"
    ∷ codes "over_ply" ∷ codes "over_move" ∷ codes "over_why" ∷ codes "threefold_ply" ∷ codes "threefold_move" ∷ codes "fifty_ply"
    ∷ codes "fifty_move" ∷ codes "repetitions" ∷ codes "quiet" ∷ codes "agrees" ∷ codes "left_open" ∷ codes "bare_king_wins" ∷ codes "fen" ∷ []

-- the columns of a fault, which a game hasn't
abbrev pub fault_names : List (List ℕ)
fault_names = codes "fault_place" ∷ codes "fault" ∷ []

-- the fault of a game, if it has one
abbrev pub ending_cells : Option PgnFault → List Cell
ending_cells None = empty_cells fault_names
ending_cells (Some fault) = (codes "fault_place", Number fault.place) ∷ (codes "fault", Text (name_of fault.kind)) ∷ []

-- the row of a game
abbrev pub game_cells : ℕ → ℕ → Game → Heading → Option Bool → Option PgnFault → List Cell
game_cells number offset game heading unmarked fault =
    place_cells number offset ++ (roster_cells (roster_in game.tags) ++ (line_cells (main game.tree) game.outcome heading unmarked ++ ending_cells fault))

-- what can be said of one that isn't read: the value of its tag Result
abbrev pub lost_cells : Option (List ℕ) → List Cell
lost_cells result = empty_cells early_names ++ (codes "result_tag", maybe Text result) ∷ empty_cells late_names

-- the row of one that can't be read, and isn't repaired
abbrev pub fault_cells : ℕ → ℕ → Roster → Heading → PgnFault → List Cell
fault_cells number offset roster heading fault = place_cells number offset ++ (roster_cells roster ++ (lost_cells heading.result ++ ending_cells (Some fault)))

-- the names of the columns
abbrev pub column_names : List (List ℕ)
column_names = codes "number" ∷ codes "offset" ∷ (roster_names ++ (early_names ++ (codes "result_tag" ∷ (late_names ++ fault_names))))

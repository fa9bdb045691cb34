-- What the Laws say of a line (FIDE Laws, articles 5.1, 5.2, 9.2, 9.3 and 9.6).
--   is_over             the game is over by its last position and their repetitions
--   first_over          the first ply at which the game is over
--   played_on           where the game was over, if moves follow
--   first_threefold     the first ply at which a draw may be claimed by repetition; first_fifty, by fifty moves
--   most_repetitions    the most often a position has come up
--   longest_quiet       the most plies in a row without a pawn's move or a capture, those before the start as its halfmove clock has them
--   is_win_of, is_draw, is_open    the marker at a game's end is a win of that side, a draw, or open
--   agrees              the marker agrees with the board; marker_fits, with a board of that status
use Rattle.std.specs.Prelude.{ℕ, nat_lt, Bool, true, false, not, ◌||◌, if◌then◌else◌, Option, Some, None}
use Rattle.chess_types.specs.declared.board.man.Colour.{Colour}
use Rattle.chess_types.specs.declared.board.man.Colour.TheVariants.{White, Black}
use Rattle.chess_types.specs.declared.board.outcome.Status.{Status}
use Rattle.chess_types.specs.declared.board.outcome.Status.TheVariants.{Mate, Play}
use Rattle.chess_types.specs.board.Lines.{Line, last}
use Rattle.chess_types.specs.board.Repetition.{repetitions}
use Rattle.chess_types.specs.board.Outcome.{status, claims, is_play, winner}
use Rattle.chess_items.specs.declared.outcome.Outcome.{Outcome}
use Rattle.chess_items.specs.declared.outcome.Outcome.TheVariants.{WhiteWins, BlackWins, Draw, Unfinished}
use Rattle.chess_report.specs.declared.report.Over.{Over}
use Rattle.chess_report.specs.MainLine.{first, most}

-- by mate, stalemate, a dead position, five repetitions or 75 moves (5.1.1, 5.2.1, 5.2.2, 9.6)
abbrev pub is_over : Line → Bool
is_over line = not (is_play (status line))

-- the first ply after which the game was over
abbrev pub first_over : Line → Option ℕ
first_over line = first is_over line

-- an end of a line of `plies` plies, where it comes before the last
abbrev pub played_on : Option Over → ℕ → Option Over
played_on None plies = None
played_on (Some over) plies = if nat_lt over.ply plies then Some over else None

-- the same position for the third time, in a game that isn't over (9.2.2)
abbrev pub first_threefold : Line → Option ℕ
first_threefold line = first (λ l. (claims l).threefold) line

-- fifty moves of each side without a pawn's move or a capture, in a game that isn't over (9.3.2)
abbrev pub first_fifty : Line → Option ℕ
first_fifty line = first (λ l. (claims l).fifty) line

-- the most often that a position had come up
abbrev pub most_repetitions : Line → ℕ
most_repetitions line = most repetitions line

-- the greatest halfmove clock of the line
abbrev pub longest_quiet : Line → ℕ
longest_quiet line = most (λ l. (last l).clock) line

-- the winner's marker
abbrev pub is_win_of : Option Colour → Outcome → Bool
is_win_of (Some White) WhiteWins = true
is_win_of (Some Black) BlackWins = true
is_win_of _ _ = false

-- the marker of a draw
abbrev pub is_draw : Outcome → Bool
is_draw Draw = true
is_draw _ = false

-- it says nothing of how the game ended
abbrev pub is_open : Outcome → Bool
is_open Unfinished = true
is_open _ = false

-- after mate the winner's marker (1.4.1), after each other end a draw's (5.2, 9.6); any in a game that isn't over, in which a player may resign or overstep the time
abbrev pub marker_fits : Status → Option Colour → Outcome → Bool
marker_fits Play won marker = true
marker_fits Mate won marker = is_win_of won marker
marker_fits _ won marker = is_draw marker

-- the marker says nothing, or what the board says
abbrev pub agrees : Line → Outcome → Bool
agrees line marker = is_open marker || marker_fits (status line) (winner (last line)) marker

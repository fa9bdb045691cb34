-- What a slot holds.
--   Searching      a search: the line whose last position it is of, its depth, and how many of the legal moves were searched
--   Held           a board with its tree and what its game's text says beside it, a search, if one was begun, and the state of an engine
--   new_board      as it is made
--   copy_of        as a copy of it is made
--   with_board, with_heading, with_search, with_engine   the same with another part
--   roots          the moves that a search is about: all legal ones
--   coded_held     what is held as a tuple, by which a proof tells one from another
use Rattle.std.specs.Prelude.{ℕ, List, Option, None, refl}
use Rattle.std.specs.Coded.{Coded, code_by, coded×, coded_ℕ, coded_option}
use Rattle.chess_types.specs.board.MoveParts.{MoveParts}
use Rattle.chess_types.specs.board.Legal.{legal_moves}
use Rattle.chess_types.specs.board.Lines.{Line, last}
use Rattle.chess_types.specs.steps.LineCode.{coded_line}
use Rattle.chess_tree.specs.GameTree.{TreeParts}
use Rattle.chess_tree.specs.steps.TreeCode.{coded_tree}
use Rattle.chess_uci.specs.Machine.{State}
use Rattle.chess_uci.specs.Machine as machine
use Rattle.chess_uci.specs.steps.StateCode.{coded_session}
use Rattle.chess_cli.specs.Answers as answers
use Rattle.chess_bindings.specs.Headings.{HeadingParts, coded_heading, nothing_known}

-- a search as far as it has come
pub record Searching : Type 0 where
  pub line : Line
  pub depth : ℕ
  pub searched : ℕ

-- what a slot holds
pub record Held : Type 0 where
  pub board : TreeParts
  pub heading : HeadingParts
  pub search : Option Searching
  pub engine : State

-- a board as a game begins, of which nothing is known, no search, and an engine at its start
abbrev pub new_board : Held
new_board = record { board = answers.new_tree; heading = nothing_known; search = None; engine = machine.beginning }

-- the same game at the same node, no search, and an engine at its start
abbrev pub copy_of : Held → Held
copy_of held = record { board = held.board; heading = held.heading; search = None; engine = machine.beginning }

-- another board
abbrev pub with_board : TreeParts → Held → Held
with_board board held = record { board = board; heading = held.heading; search = held.search; engine = held.engine }

-- other tags, or another end
abbrev pub with_heading : HeadingParts → Held → Held
with_heading heading held = record { board = held.board; heading = heading; search = held.search; engine = held.engine }

-- another search, or none
abbrev pub with_search : Option Searching → Held → Held
with_search search held = record { board = held.board; heading = held.heading; search = search; engine = held.engine }

-- another state of the engine
abbrev pub with_engine : State → Held → Held
with_engine engine held = record { board = held.board; heading = held.heading; search = held.search; engine = engine }

-- all legal moves of the last position (FIDE Laws 3.1 to 3.10)
abbrev pub roots : Line → List MoveParts
roots line = legal_moves (last line)

-- a search as a tuple
abbrev pub coded_searching : Coded Searching
coded_searching =
    code_by (Line × (ℕ × ℕ)) (coded× coded_line (coded× coded_ℕ coded_ℕ)) (λ s. (s.line, (s.depth, s.searched))) (λ p. record { line = p.0; depth = p.1.0; searched = p.1.1 }) (λ _. refl)

-- what is held as a tuple
abbrev pub coded_held : Coded Held
coded_held =
    code_by ((TreeParts × HeadingParts) × (Option Searching × State)) (coded× (coded× coded_tree coded_heading) (coded× (coded_option coded_searching) coded_session))
    (λ h. ((h.board, h.heading), (h.search, h.engine))) (λ p. record { board = p.0.0; heading = p.0.1; search = p.1.0; engine = p.1.1 }) (λ _. refl)

-- Where the line of a walk is.
--   before_move    the line before the move of a visit, from the line to the one before it
--   with_any       a line with a move, if there is one
--   after_visit    the line with the visit's move
--   replayed       the visits, each with the line before its move
--   AreReplayable  each move is legal where it is made, and the one made again too
use Rattle.std.specs.Prelude.{◌≡◌, ℕ, ◌-◌, ◌≤◌, true, List, [], ◌∷◌, ◌++◌, take, Option, Some, None, ⊤, refl}
use Rattle.std.specs.Coded.{Coded, code_by, coded×}
use Rattle.std.specs.Option.{option_to_list}
use Rattle.chess_types.specs.board.MoveParts.{MoveParts}
use Rattle.chess_types.specs.board.Legal.{is_legal}
use Rattle.chess_types.specs.board.Lines.{Line, extended, last}
use Rattle.chess_types.specs.steps.LineCode.{coded_line}
use Rattle.chess_draws.specs.Pushes.{most_plies}
use Rattle.chess_walk.specs.Order.{Visit}
use Rattle.chess_walk.specs.Replays.{Played}
use Rattle.chess_walk.specs.steps.Code.{coded_visit}

-- the line's first moves
abbrev pub shortened : Line → ℕ → Line
shortened line n = record { start = line.start; moves = take n line.moves }

-- as many moves as lead to the node before; where that one is made again, one fewer and that move
abbrev pub before_move : Line → (depth : ℕ) → Option MoveParts → Line
before_move line depth None = shortened line (depth - 1)
before_move line depth (Some m) = extended (shortened line (depth - 2)) m

-- one move more, or none
abbrev pub with_any : Line → Option MoveParts → Line
with_any line move = record { start = line.start; moves = line.moves ++ option_to_list move }

-- one move more than before the visit
abbrev pub after_visit : Line → Visit → Line
after_visit line v = with_any (before_move line v.depth v.again) v.node.move

-- from a line, each visit on the line that the one before it left
abbrev pub replayed : Line → List Visit → List Played
replayed line [] = []
replayed line (v ∷ vs) = record { before = before_move line v.depth v.again; visit = v } ∷ replayed (after_visit line v) vs

-- where a move is made again, there is one, and it is legal
abbrev pub IsLegalAgain : Line → (depth : ℕ) → Option MoveParts → Type 0
IsLegalAgain line depth None = ⊤
IsLegalAgain line depth (Some m) = (2 ≤ depth) × (is_legal (last (shortened line (depth - 2))) m ≡ true)

-- the visit has a move, legal where it is made, and at most 20,000 moves lead to it
pub record IsReplayable (line : Line) (v : Visit) : Type 0 where
  pub deep : 1 ≤ v.depth
  pub again : IsLegalAgain line v.depth v.again
  pub move : MoveParts
  pub there : v.node.move ≡ Some move
  pub legal : is_legal (last (before_move line v.depth v.again)) move ≡ true
  pub few : v.depth ≤ most_plies

-- and so has each after it
abbrev pub AreReplayable : Line → List Visit → Type 0
AreReplayable line [] = ⊤
AreReplayable line (v ∷ vs) = IsReplayable line v × AreReplayable (after_visit line v) vs

-- a line and a visit
abbrev pub coded_played : Coded Played
coded_played =
    code_by (Line × Visit) (coded× coded_line coded_visit)
    (λ p. (p.before, p.visit))
    (λ p. record { before = p.0; visit = p.1 })
    (λ _. refl)

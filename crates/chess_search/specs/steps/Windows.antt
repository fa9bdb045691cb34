-- What a search in a window may answer.
--   IsWindow     a window within what anything is worth and a number on each side
--   IsFloor      a number above which a window may begin, up to the greatest
--   IsScore      an answer is the value of a mate, or far from any
--   FitsWindow   an answer for a value, of which nothing is asked but on which side of the window it lies, where it isn't inside
--   IsDecided    an answer for a draw and for an evaluation alike
--   better       the better of what is kept and one move more
--   better_above, best_above   the same of one move or some moves more, where the first that is kept has to be worth more than a number
use Rattle.std.specs.Prelude.{if◌then◌else◌, List, [], ◌∷◌, Option, Some, None, ℤ, neg_ℤ, pos, ◌≤ℤ◌, ◌<ℤ◌, int_lt}
use Rattle.chess_types.specs.board.MoveParts.{MoveParts}
use Rattle.chess_search.specs.Scores.{IsValue, IsApart}

-- from alpha to beta
pub record IsWindow (alpha beta : ℤ) : Type 0 where
  pub low : neg_ℤ (pos 30001) ≤ℤ alpha
  pub wide : alpha <ℤ beta
  pub high : beta ≤ℤ pos 30001

-- below it nothing is of interest
pub record IsFloor (least : ℤ) : Type 0 where
  pub low : neg_ℤ (pos 30001) ≤ℤ least
  pub below : least ≤ℤ pos 30000

-- a number that a line may be worth, clearly a mate's or clearly none
pub record IsScore (value : ℤ) : Type 0 where
  pub in_range : IsValue value
  pub border : IsApart value

-- an answer below the window's end is no less than the value, and one above its beginning no more
pub record FitsWindow (alpha beta value answer : ℤ) : Type 0 where
  pub upper : answer <ℤ beta → value ≤ℤ answer
  pub lower : alpha <ℤ answer → answer ≤ℤ value

-- the window decides a draw and the evaluation alike
pub record IsDecided (alpha beta evaluation answer : ℤ) : Type 0 where
  pub draw : FitsWindow alpha beta (pos 0) answer
  pub evaluated : FitsWindow alpha beta evaluation answer
  pub in_range : IsValue answer
  pub border : IsApart answer

-- a move replaces what is kept only where it is worth more
abbrev pub better : Option (MoveParts × ℤ) → MoveParts → ℤ → Option (MoveParts × ℤ)
better None m v = Some (m, v)
better (Some kept) m v = if int_lt kept.1 v then Some (m, v) else Some kept

-- the same, but while nothing is kept a move has to be worth more than `least`
abbrev pub better_above : ℤ → Option (MoveParts × ℤ) → MoveParts → ℤ → Option (MoveParts × ℤ)
better_above least None m v = if int_lt least v then Some (m, v) else None
better_above least (Some kept) m v = better (Some kept) m v

-- one move after another
abbrev pub best_above : (MoveParts → ℤ) → ℤ → Option (MoveParts × ℤ) → List MoveParts → Option (MoveParts × ℤ)
best_above worth least kept [] = kept
best_above worth least kept (m ∷ moves) = best_above worth least (better_above least kept m (worth m)) moves

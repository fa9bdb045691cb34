-- The main line as far as it was gone over.
use Rattle.std.proofs.Common.{◌≡◌, ℕ, ◌≤◌, suc, [], ◌∷◌, length, Option, Some, None, refl, sym, ap, subst, ◌∙◌, arith, length-append}
use Rattle.chess_types.specs.board.MoveParts.{MoveParts}
use Rattle.chess_types.specs.board.Lines.{Line, extended}
use Rattle.chess_tree.specs.Forest.{Forest, NodeParts, child, height}
use Rattle.chess_tree.specs.GameTree.{GameTree}
use Rattle.chess_tree.specs.WellFormed.{AreSound}
use Rattle.chess_report.specs.declared.tally.Tally.{Tally}
use Rattle.chess_report.specs.MainLine.{main}
use Rattle.chess_report.specs.steps.Tallies.{IsTally}
use Rattle.chess_report.proofs.FollowLemmas.{Follows, Next, follows_start, follows_next, follows_end, follows_far}
use Rattle.chess_report.proofs.TallyLemmas.{Adds, IsNew, tally_none, tally_on}

-- the line is the main one as far as the nodes below, and each of its plies was gone over
pub record Underway (whole line : Line) (t : Tally) (below : Forest) : Type 0 where
  pub follows : Follows whole line below
  pub tally : IsTally whole (suc (length line.moves)) t

underway : (whole line line' : Line) (old new : Tally) (below below' : Forest) → Follows whole line below → IsTally whole (length line.moves) old → Adds line old new → line' ≡ line → below' ≡ below → Underway whole line' new below'
underway whole line line' old new below below' f t a e b =
    subst (λ (l : Line). Underway whole l new below') (sym e) (subst (λ (x : Forest). Underway whole line new x) (sym b) (record { follows = f; tally = tally_on whole line old new (follows_far whole line below f) t a }))

pub begun : (tree : GameTree) (line line' : Line) (old new : Tally) (below : Forest) → line ≡ record { start = tree.start; moves = [] } → AreSound tree.start tree.below → height tree.below ≤ 20000
    → IsNew old → Adds line old new → line' ≡ line → below ≡ tree.below → Underway (main tree) line' new below
begun tree line line' old new below e sound deep none a same b =
    underway (main tree) line line' old new tree.below below (follows_start tree line e sound deep)
    (subst (λ (n : ℕ). IsTally (main tree) n old) (sym (ap (λ (l : Line). length l.moves) e)) (tally_none (main tree) old none)) a same b

-- what the next move is
pub next_move : (whole line : Line) (t : Tally) (below : Forest) (found : Option NodeParts) (n : NodeParts) (played : Option MoveParts) (m : MoveParts) → found ≡ Some n → found ≡ child 0 below → played ≡ Some m → played ≡ n.move
    → Underway whole line t below → Next whole line m below n.below
next_move whole line t below found n played m e1 e2 e3 e4 u = follows_next whole line below n m (sym e2 ∙ e1) (sym e4 ∙ e3) u.follows

pub gone_on : (whole line line1 line2 : Line) (old new : Tally) (below after_it : Forest) (m : MoveParts) → Next whole line m below after_it → Underway whole line old below → line1 ≡ extended line m → Adds line1 old new → line2 ≡ line1
    → Underway whole line2 new after_it
gone_on whole line line1 line2 old new below after_it m next u e a same =
    underway whole line1 line2 old new after_it after_it (subst (λ (l : Line). Follows whole l after_it) (sym e) next.follows)
    (subst (λ (n : ℕ). IsTally whole n old) (sym (ap (λ (l : Line). length l.moves) e ∙ one)) u.tally) a same refl
  where
    one : length (extended line m).moves ≡ suc (length line.moves)
    one = length-append line.moves (m ∷ []) ∙ omega arith

-- the nodes below are none
pub record Ended (whole line : Line) (t : Tally) : Type 0 where
  pub same : line ≡ whole
  pub tally : IsTally whole (suc (length whole.moves)) t

pub ended : (whole line : Line) (t : Tally) (below : Forest) (found : Option NodeParts) → found ≡ None → found ≡ child 0 below → Underway whole line t below → Ended whole line t
ended whole line t below found e1 e2 u =
    let same : line ≡ whole = follows_end whole line below (sym e2 ∙ e1) u.follows in
    record { same = same; tally = subst (λ (l : Line). IsTally whole (suc (length l.moves)) t) same u.tally }

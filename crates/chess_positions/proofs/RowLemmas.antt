-- The rows of a main line, ply by ply.
use Rattle.std.proofs.Common.{◌≡◌, ℕ, ◌≤◌, suc, List, [], ◌∷◌, ◌++◌, length, Option, Some, None, refl, sym, ap, subst, ◌∙◌, arith, append_assoc, append-nil, length-append}
use Rattle.chess_types.specs.board.MoveParts.{MoveParts}
use Rattle.chess_types.specs.board.Lines.{Line, extended}
use Rattle.chess_tree.specs.Forest.{Forest, NodeParts, child, height}
use Rattle.chess_tree.specs.GameTree.{GameTree}
use Rattle.chess_tree.specs.WellFormed.{AreSound}
use Rattle.chess_report.specs.MainLine.{as_far, main}
use Rattle.chess_report.proofs.FollowLemmas.{Follows, Next, follows_start, follows_next, follows_end, follows_far}
use Rattle.chess_positions.specs.Rows.{rows_below}

-- the rows of a line's plies below a number, by the row of a line's last ply
abbrev pub rows_of : (Line → List ℕ) → Line → ℕ → List ℕ
rows_of row whole n = rows_below (λ k. row (as_far k whole)) n

-- a row more
row_more : (row : Line → List ℕ) (whole line : Line) (old mid new : List ℕ) → as_far (length line.moves) whole ≡ line → mid ≡ old ++ rows_of row whole (length line.moves) → new ≡ mid ++ row line
    → new ≡ old ++ rows_of row whole (suc (length line.moves))
row_more row whole line old mid new far so_far is =
    is ∙ ap (λ (t : List ℕ). t ++ row line) so_far ∙ append_assoc old (rows_of row whole (length line.moves)) (row line)
    ∙ ap (λ (l : Line). old ++ (rows_of row whole (length line.moves) ++ row l)) (sym far)

-- the line is the main one as far as the nodes below, and the rows of its plies are written
pub record Underway (row : Line → List ℕ) (whole line : Line) (old out : List ℕ) (below : Forest) : Type 0 where
  pub follows : Follows whole line below
  pub written : out ≡ old ++ rows_of row whole (suc (length line.moves))

underway : (row : Line → List ℕ) (whole line line' : Line) (old mid out : List ℕ) (below below' : Forest) → Follows whole line below → mid ≡ old ++ rows_of row whole (length line.moves) → out ≡ mid ++ row line → line' ≡ line → below' ≡ below
    → Underway row whole line' old out below'
underway row whole line line' old mid out below below' f so_far is e b =
    subst (λ (l : Line). Underway row whole l old out below') (sym e) (subst (λ (x : Forest). Underway row whole line old out x) (sym b)
    (record { follows = f; written = row_more row whole line old mid out (follows_far whole line below f) so_far is }))

pub begun : (row : Line → List ℕ) (tree : GameTree) (line line' : Line) (old out : List ℕ) (below : Forest) → line ≡ record { start = tree.start; moves = [] } → AreSound tree.start tree.below → height tree.below ≤ 20000
    → out ≡ old ++ row line → line' ≡ line → below ≡ tree.below → Underway row (main tree) line' old out below
begun row tree line line' old out below e sound deep is same b =
    underway row (main tree) line line' old old out tree.below below (follows_start tree line e sound deep)
    (subst (λ (n : ℕ). old ≡ old ++ rows_of row (main tree) n) (sym (ap (λ (l : Line). length l.moves) e)) (sym (append-nil old))) is same b

-- what the next move is
pub next_move : (row : Line → List ℕ) (whole line : Line) (old out : List ℕ) (below : Forest) (found : Option NodeParts) (n : NodeParts) (played : Option MoveParts) (m : MoveParts) → found ≡ Some n → found ≡ child 0 below → played ≡ Some m
    → played ≡ n.move → Underway row whole line old out below → Next whole line m below n.below
next_move row whole line old out below found n played m e1 e2 e3 e4 u = follows_next whole line below n m (sym e2 ∙ e1) (sym e4 ∙ e3) u.follows

pub gone_on : (row : Line → List ℕ) (whole line line1 line2 : Line) (old mid out : List ℕ) (below after_it : Forest) (m : MoveParts) → Next whole line m below after_it → Underway row whole line old mid below → line1 ≡ extended line m
    → out ≡ mid ++ row line1 → line2 ≡ line1 → Underway row whole line2 old out after_it
gone_on row whole line line1 line2 old mid out below after_it m next u e is same =
    underway row whole line1 line2 old mid out after_it after_it (subst (λ (l : Line). Follows whole l after_it) (sym e) next.follows)
    (subst (λ (n : ℕ). mid ≡ old ++ rows_of row whole n) (sym (ap (λ (l : Line). length l.moves) e ∙ one)) u.written) is same refl
  where
    one : length (extended line m).moves ≡ suc (length line.moves)
    one = length-append line.moves (m ∷ []) ∙ omega arith

-- the nodes below are none
pub ended : (row : Line → List ℕ) (whole line : Line) (old out : List ℕ) (below : Forest) (found : Option NodeParts) → found ≡ None → found ≡ child 0 below → Underway row whole line old out below
    → out ≡ old ++ rows_of row whole (suc (length whole.moves))
ended row whole line old out below found e1 e2 u =
    u.written ∙ ap (λ (l : Line). old ++ rows_of row whole (suc (length l.moves))) (follows_end whole line below (sym e2 ∙ e1) u.follows)

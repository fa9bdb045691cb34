-- The line to the cursor, call by call: a step down or up is one move more or less.
use Rattle.std.proofs.Common.{◌≡◌, ℕ, zero, suc, ◌<◌, List, [], ◌∷◌, ◌++◌, length, Option, None, Some, refl, sym, subst, ap, ◌∙◌, arith, true}
use Rattle.std.specs.Prelude.{IfSome}
use Rattle.std.proofs.lemmas.List.{length-append}
use Rattle.chess_types.specs.board.MoveParts.{MoveParts}
use Rattle.chess_types.specs.board.Legal.{is_legal}
use Rattle.chess_types.specs.board.Lines.{Line, extended, last}
use Rattle.chess_tree.specs.Forest.{Forest, Bare, Node, below_at, below_child, count}
use Rattle.chess_tree.specs.Edits.{parent}
use Rattle.chess_tree.specs.GameTree.{TreeParts, at_path, deleted, find, line_to, move_of, nodes_here}
use Rattle.chess_tree.specs.CursorLine.{GoesOn}
use Rattle.chess_tree.specs.WellFormed.{IsGameTree, Leads}
use Rattle.chess_tree.proofs.EditLemmas.{leads_parent}
use Rattle.chess_tree.proofs.TreeLemmas.{game_at}
use Rattle.chess_tree.proofs.LineLemmas.{above_shallow, find_some, legal_child, line_deleted, line_length, line_on, lowest, move_here, parent_on, same_front}

record SomeMove (k : ℕ) (f : Forest) : Type 0 where
  move : MoveParts
  is : move_of k f ≡ Some move

some_move : (k : ℕ) (f : Forest) → k < count f → SomeMove k f
some_move k Bare h = absurd (omega arith)
some_move zero (Node m nags comment below next) h = record { move = m; is = refl }
some_move (suc k) (Node m nags comment below next) h =
    let rest = some_move k next (omega arith) in
    record { move = rest.move; is = rest.is }

-- to a child
pub goes_down : (t : TreeParts) (k : ℕ) → IsGameTree t → k < count (nodes_here t) → GoesOn t (at_path (t.path ++ k ∷ []) t)
goes_down t k game there =
    let some = some_move k (nodes_here t) there in
    let depth = above_shallow t game (omega (arith, there)) in
    record {
      move = some.move;
      there = move_here t k game there ∙ some.is;
      legal = legal_child t k some.move game some.is;
      short = omega (arith, depth, line_length t game);
      line = line_on t k some.move some.is;
    }

leads_lowest : (path : List ℕ) (f : Forest) → Leads path f → 0 < length path → lowest path < count (below_at (parent path) f)
leads_lowest [] f leads some = absurd (omega arith)
leads_lowest (k ∷ []) f leads some = leads.0
leads_lowest (k ∷ j ∷ path) f leads some = leads_lowest (j ∷ path) (below_child k f) leads.1 (omega arith)

-- to the parent: the other way round
pub goes_up : (t : TreeParts) → IsGameTree t → 0 < length t.path → GoesOn (at_path (parent t.path) t) t
goes_up t game some =
    let above = at_path (parent t.path) t in
    let down =
    goes_down above (lowest t.path) (game_at (parent t.path) t game (leads_parent t.path t.tree.below game.cursor))
    (leads_lowest t.path t.tree.below game.cursor some) in
    subst (λ (path : List ℕ). GoesOn above (at_path path t)) (sym (parent_on t.path some)) down

-- known of a place by the line to it alone
by_line : (a b t : TreeParts) → line_to b ≡ line_to a → GoesOn b t → GoesOn a t
by_line a b t same on = record {
  move = on.move;
  there = on.there;
  legal = subst (λ (l : Line). is_legal (last l) on.move ≡ true) same on.legal;
  short = subst (λ (l : Line). length l.moves < 20000) same on.short;
  line = on.line ∙ ap (λ (l : Line). extended l on.move) same;
}

-- to the parent, the node taken out: its line is the same
pub goes_out : (t : TreeParts) → IsGameTree t → 0 < length t.path → GoesOn (deleted t) t
goes_out t game some = by_line (deleted t) (at_path (parent t.path) t) t (sym (line_deleted t game)) (goes_up t game some)

-- one step up is known by what it makes of the line
pub line_separated : (a b : Line) (m n : MoveParts) → extended a m ≡ extended b n → a ≡ b
line_separated a b m n e =
    let moves = ap (λ (l : Line). l.moves) e in
    let lengths : length a.moves ≡ length b.moves = omega (arith, ap length moves, length-append a.moves (m ∷ []), length-append b.moves (n ∷ [])) in
    let start = ap (λ (l : Line). l.start) e in
    let same = same_front a.moves b.moves (m ∷ []) (n ∷ []) moves lengths in
    λ i. record { start = start i; moves = same i }

-- the child that has a move is there
pub found_there : (o : Option ℕ) (m : MoveParts) (f g : Forest) → o ≡ find m f → f ≡ g → IfSome o (λ place. place < count g)
found_there None m f g e is = tt
found_there (Some place) m f g e is = omega (arith, (find_some m f place (sym e)).0, ap count is)

-- and its move is legal
pub found_legal : (o : Option ℕ) (m : MoveParts) (f : Forest) (t : TreeParts) → IsGameTree t → o ≡ find m f → f ≡ nodes_here t
    → IfSome o (λ _. is_legal (last (line_to t)) m ≡ true)
found_legal None m f t game e is = tt
found_legal (Some place) m f t game e is = legal_child t place m game (ap (move_of place) (sym is) ∙ (find_some m f place (sym e)).1)

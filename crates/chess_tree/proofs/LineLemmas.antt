-- The line to the cursor: what a step and an edit make of it, and that the moves of a tree are legal on it.
use Rattle.std.proofs.Common.{◌≡◌, ℕ, zero, suc, ◌+◌, ◌<◌, ◌≤◌, ◌==◌, Bool, true, false, if◌then◌else◌, eqb-true, List, [], ◌∷◌, ◌++◌, length, take, Option, None, Some, refl, sym, ap, subst, ◌∙◌, append_assoc, append-nil, arith}
use Rattle.std.specs.Prelude.{⊤, unwrap_or, option_map}
use Rattle.std.specs.Option.{option_to_list, option_eq}
use Rattle.std.proofs.lemmas.Bool.{and_parts, false≢true}
use Rattle.std.proofs.lemmas.List.{length-append}
use Rattle.std.proofs.Math.Seq.{take-append_seam}
use Rattle.chess_types.specs.declared.board.man.Kind.{Kind}
use Rattle.chess_types.specs.board.Men.{kind_number}
use Rattle.chess_types.specs.steps.ManCode.{kind_of, kind_of-number}
use Rattle.chess_types.specs.board.MoveParts.{MoveParts}
use Rattle.chess_types.specs.board.Position.{PositionParts}
use Rattle.chess_types.specs.board.After.{after}
use Rattle.chess_types.specs.board.Legal.{is_legal}
use Rattle.chess_types.specs.board.Lines.{AreLegal, Line, extended, last, play}
use Rattle.chess_tree.specs.Forest.{Forest, Bare, Node, NodeParts, below_at, below_child, child, count}
use Rattle.chess_tree.specs.Edits.{annotated, unannotated, change_below, change_node, commented, in_front, inside, parent, promoted, with_move, without_node}
use Rattle.chess_tree.specs.GameTree.{GameTree, TreeParts, added, annotated_here, unannotated_here, at_path, commented_here, commented_tree, deleted, find, here, is_move, line_to, move_of, moves_along, node_of, promoted_here, root_node}
use Rattle.chess_tree.specs.WellFormed.{IsGameTree, Leads}
use Rattle.chess_tree.proofs.EditLemmas.{below_changed, below_inside, deeper, leads_parent, path_le_height}
use Rattle.chess_tree.proofs.SoundLemmas.{legal_along}

-- ---- edits

move_inside : (k : ℕ) (change : Forest → Forest) (f : Forest) → move_of k (inside k change f) ≡ move_of k f
move_inside k change Bare = refl
move_inside zero change (Node m nags comment below next) = refl
move_inside (suc k) change (Node m nags comment below next) = move_inside k change next

-- where what is below the first node of a path is changed
along_inside : (k : ℕ) (path rest : List ℕ) (change : Forest → Forest) (f : Forest) → k < count f → moves_along path (change (below_child k f)) ≡ moves_along rest (below_child k f)
    → moves_along (k ∷ path) (inside k change f) ≡ moves_along (k ∷ rest) f
along_inside k path rest change f there e =
    ap (λ (o : Option MoveParts). option_to_list o ++ moves_along path (below_child k (inside k change f))) (move_inside k change f)
    ∙ ap (λ (ms : List MoveParts). option_to_list (move_of k f) ++ ms) (ap (moves_along path) (below_inside k change f there) ∙ e)

-- a change of the node that keeps its move
along_node : (g : ℕ → Forest → Forest) (path : List ℕ) (f : Forest) → ((k : ℕ) (x : Forest) → move_of k (g k x) ≡ move_of k x) → Leads path f
    → moves_along path (change_node g path f) ≡ moves_along path f
along_node g [] f same leads = refl
along_node g (k ∷ []) f same leads = ap (λ (o : Option MoveParts). option_to_list o ++ []) (same k f)
along_node g (k ∷ j ∷ path) f same leads =
    along_inside k (j ∷ path) (j ∷ path) (change_node g (j ∷ path)) f leads.0 (along_node g (j ∷ path) (below_child k f) same leads.1)

-- whatever is done to the node, the line to its parent stays
along_parent : (g : ℕ → Forest → Forest) (path : List ℕ) (f : Forest) → Leads path f → moves_along (parent path) (change_node g path f) ≡ moves_along (parent path) f
along_parent g [] f leads = refl
along_parent g (k ∷ []) f leads = refl
along_parent g (k ∷ j ∷ path) f leads =
    along_inside k (parent (j ∷ path)) (parent (j ∷ path)) (change_node g (j ∷ path)) f leads.0 (along_parent g (j ∷ path) (below_child k f) leads.1)

move_in_front : (k : ℕ) (f others : Forest) → k < count f → move_of 0 (in_front k f others) ≡ move_of k f
move_in_front k Bare others h = absurd (omega arith)
move_in_front zero (Node m nags comment below next) others h = refl
move_in_front (suc k) (Node m nags comment below next) others h = move_in_front k next others (omega arith)

along_promoted : (path : List ℕ) (f : Forest) → Leads path f → 0 < length path → moves_along (parent path ++ 0 ∷ []) (change_node promoted path f) ≡ moves_along path f
along_promoted [] f leads some = absurd (omega arith)
along_promoted (k ∷ []) f leads some = ap (λ (o : Option MoveParts). option_to_list o ++ []) (move_in_front k f (without_node k f) leads.0)
along_promoted (k ∷ j ∷ path) f leads some =
    along_inside k (parent (j ∷ path) ++ 0 ∷ []) (j ∷ path) (change_node promoted (j ∷ path)) f leads.0 (along_promoted (j ∷ path) (below_child k f) leads.1 (omega arith))

move_commented : (text : List ℕ) (k : ℕ) (f : Forest) → move_of k (commented text k f) ≡ move_of k f
move_commented text k Bare = refl
move_commented text zero (Node m nags comment below next) = refl
move_commented text (suc k) (Node m nags comment below next) = move_commented text k next

move_annotated : (nag k : ℕ) (f : Forest) → move_of k (annotated nag k f) ≡ move_of k f
move_annotated nag k Bare = refl
move_annotated nag zero (Node m nags comment below next) = refl
move_annotated nag (suc k) (Node m nags comment below next) = move_annotated nag k next

move_unannotated : (k : ℕ) (f : Forest) → move_of k (unannotated k f) ≡ move_of k f
move_unannotated k Bare = refl
move_unannotated zero (Node m nags comment below next) = refl
move_unannotated (suc k) (Node m nags comment below next) = move_unannotated k next

-- a line from there
abbrev from : PositionParts → List MoveParts → Line
from start moves = record { start = start; moves = moves }

pub line_promoted : (t : TreeParts) → IsGameTree t → 0 < length t.path → line_to (promoted_here t) ≡ line_to t
line_promoted t game some = ap (from t.tree.start) (along_promoted t.path t.tree.below game.cursor some)

pub line_annotated : (nag : ℕ) (t : TreeParts) → IsGameTree t → line_to (annotated_here nag t) ≡ line_to t
line_annotated nag t game = ap (from t.tree.start) (along_node (annotated nag) t.path t.tree.below (move_annotated nag) game.cursor)

pub line_unannotated : (t : TreeParts) → IsGameTree t → line_to (unannotated_here t) ≡ line_to t
line_unannotated t game = ap (from t.tree.start) (along_node unannotated t.path t.tree.below move_unannotated game.cursor)

along_commented : (text path : List ℕ) (tree : GameTree) → Leads path tree.below
    → from (commented_tree text path tree).start (moves_along path (commented_tree text path tree).below) ≡ from tree.start (moves_along path tree.below)
along_commented text [] tree leads = refl
along_commented text (k ∷ path) tree leads = ap (from tree.start) (along_node (commented text) (k ∷ path) tree.below (move_commented text) leads)

pub line_commented : (text : List ℕ) (t : TreeParts) → IsGameTree t → line_to (commented_here text t) ≡ line_to t
line_commented text t game = along_commented text t.path t.tree game.cursor

pub line_deleted : (t : TreeParts) → IsGameTree t → line_to (deleted t) ≡ line_to (at_path (parent t.path) t)
line_deleted t game = ap (from t.tree.start) (along_parent without_node t.path t.tree.below game.cursor)

-- ---- steps

pub along_on : (path : List ℕ) (k : ℕ) (f : Forest) → moves_along (path ++ k ∷ []) f ≡ moves_along path f ++ option_to_list (move_of k (below_at path f))
along_on [] k f = append-nil (option_to_list (move_of k f))
along_on (j ∷ path) k f =
    ap (λ (ms : List MoveParts). option_to_list (move_of j f) ++ ms) (along_on path k (below_child j f))
    ∙ sym (append_assoc (option_to_list (move_of j f)) (moves_along path (below_child j f)) (option_to_list (move_of k (below_at path (below_child j f)))))

-- a path, and a path from there
pub along_append : (path rest : List ℕ) (f : Forest) → moves_along (path ++ rest) f ≡ moves_along path f ++ moves_along rest (below_at path f)
along_append [] rest f = refl
along_append (k ∷ path) rest f =
    ap (λ (ms : List MoveParts). option_to_list (move_of k f) ++ ms) (along_append path rest (below_child k f))
    ∙ sym (append_assoc (option_to_list (move_of k f)) (moves_along path (below_child k f)) (moves_along rest (below_at path (below_child k f))))

one_move : (k : ℕ) (f : Forest) → k < count f → length (option_to_list (move_of k f)) ≡ 1
one_move k Bare h = absurd (omega arith)
one_move zero (Node m nags comment below next) h = refl
one_move (suc k) (Node m nags comment below next) h = one_move k next (omega arith)

pub along_length : (path : List ℕ) (f : Forest) → Leads path f → length (moves_along path f) ≡ length path
along_length [] f leads = refl
along_length (k ∷ path) f leads =
    let all = length-append (option_to_list (move_of k f)) (moves_along path (below_child k f)) in
    omega (arith, all, one_move k f leads.0, along_length path (below_child k f) leads.1)

few_moves : (k : ℕ) (f : Forest) → length (option_to_list (move_of k f)) ≤ 1
few_moves k Bare = omega arith
few_moves zero (Node m nags comment below next) = omega arith
few_moves (suc k) (Node m nags comment below next) = few_moves k next

-- wherever the path leads
pub along_few : (path : List ℕ) (f : Forest) → length (moves_along path f) ≤ length path
along_few [] f = omega arith
along_few (k ∷ path) f =
    let all = length-append (option_to_list (move_of k f)) (moves_along path (below_child k f)) in
    omega (arith, all, few_moves k f, along_few path (below_child k f))

-- as many moves as the cursor is deep
pub line_length : (t : TreeParts) → IsGameTree t → length (line_to t).moves ≡ length t.path
line_length t game = along_length t.path t.tree.below game.cursor

-- to a child
pub line_on : (t : TreeParts) (k : ℕ) (m : MoveParts) → move_of k (below_at t.path t.tree.below) ≡ Some m → line_to (at_path (t.path ++ k ∷ []) t) ≡ extended (line_to t) m
line_on t k m e =
    ap (from t.tree.start) (along_on t.path k t.tree.below ∙ ap (λ (o : Option MoveParts). moves_along t.path t.tree.below ++ option_to_list o) e)

-- what is below the node is changed
along_below : (change : Forest → Forest) (path : List ℕ) (f : Forest) → Leads path f → moves_along path (change_below change path f) ≡ moves_along path f
along_below change [] f leads = refl
along_below change (k ∷ path) f leads = along_inside k path path (change_below change path) f leads.0 (along_below change path (below_child k f) leads.1)

move_appended : (m : MoveParts) (f : Forest) → move_of (count f) (with_move m f) ≡ Some m
move_appended m Bare = refl
move_appended m (Node n nags comment below next) = move_appended m next

pub line_added : (m : MoveParts) (t : TreeParts) → IsGameTree t → line_to (added m t) ≡ extended (line_to t) m
line_added m t game =
    let place = count (below_at t.path t.tree.below) in
    let new = change_below (with_move m) t.path t.tree.below in
    let move : move_of place (below_at t.path new) ≡ Some m = ap (move_of place) (below_changed (with_move m) t.path t.tree.below game.cursor) ∙ move_appended m (below_at t.path t.tree.below) in
    ap (from t.tree.start) (
    along_on t.path place new
    ∙ ap (λ (ms : List MoveParts). ms ++ option_to_list (move_of place (below_at t.path new))) (along_below (with_move m) t.path t.tree.below game.cursor)
    ∙ ap (λ (o : Option MoveParts). moves_along t.path t.tree.below ++ option_to_list o) move
    )

-- the last place of a path
abbrev pub lowest : List ℕ → ℕ
lowest [] = 0
lowest (k ∷ []) = k
lowest (k ∷ j ∷ path) = lowest (j ∷ path)

pub parent_on : (path : List ℕ) → 0 < length path → path ≡ parent path ++ lowest path ∷ []
parent_on [] h = absurd (omega arith)
parent_on (k ∷ []) h = refl
parent_on (k ∷ j ∷ path) h = ap (λ (p : List ℕ). k ∷ p) (parent_on (j ∷ path) (omega arith))

pub same_front : (xs ys us vs : List MoveParts) → xs ++ us ≡ ys ++ vs → length xs ≡ length ys → xs ≡ ys
same_front xs ys us vs e l =
    sym (take-append_seam xs us) ∙ ap (take (length xs)) e ∙ ap (λ (n : ℕ). take n (ys ++ vs)) l ∙ take-append_seam ys vs

-- to the parent: the line without its last move
pub line_back : (t : TreeParts) (line : Line) (m : MoveParts) → IsGameTree t → 0 < length t.path → line_to t ≡ extended line m → line ≡ line_to (at_path (parent t.path) t)
line_back t line m game some e =
    let place = lowest t.path in
    let prefix = parent t.path in
    let split : t.path ≡ prefix ++ place ∷ [] = parent_on t.path some in
    let moves : moves_along t.path t.tree.below ≡ moves_along prefix t.tree.below ++ option_to_list (move_of place (below_at prefix t.tree.below)) =
    ap (λ (p : List ℕ). moves_along p t.tree.below) split ∙ along_on prefix place t.tree.below in
    let all : length (moves_along t.path t.tree.below) ≡ length line.moves + 1 = ap (λ (l : Line). length l.moves) e ∙ length-append line.moves (m ∷ []) in
    let paths : length t.path ≡ length prefix + 1 = ap length split ∙ length-append prefix (place ∷ []) in
    let lengths : length line.moves ≡ length (moves_along prefix t.tree.below) =
    omega (arith, all, paths, along_length t.path t.tree.below game.cursor, along_length prefix t.tree.below (leads_parent t.path t.tree.below game.cursor)) in
    let same : line.moves ≡ moves_along prefix t.tree.below = same_front line.moves (moves_along prefix t.tree.below) (m ∷ []) _ (sym (ap (λ (l : Line). l.moves) e) ∙ moves) lengths in
    let start : line.start ≡ t.tree.start = sym (ap (λ (l : Line). l.start) e) in
    λ i. record { start = start i; moves = same i }

-- ---- moves of the tree

legal_end : (p : PositionParts) (moves : List MoveParts) (m : MoveParts) → AreLegal p (moves ++ m ∷ []) → is_legal (play p moves) m ≡ true
legal_end p [] m legal = legal.0
legal_end p (n ∷ moves) m legal = legal_end (after p n) moves m legal.1

-- the move of a child is legal at the cursor
pub legal_child : (t : TreeParts) (k : ℕ) (m : MoveParts) → IsGameTree t → move_of k (below_at t.path t.tree.below) ≡ Some m → is_legal (last (line_to t)) m ≡ true
unfolding last
legal_child t k m game e =
    let moves : moves_along (t.path ++ k ∷ []) t.tree.below ≡ moves_along t.path t.tree.below ++ m ∷ [] = ap (λ (l : Line). l.moves) (line_on t k m e) in
    legal_end t.tree.start (moves_along t.path t.tree.below) m (subst (AreLegal t.tree.start) moves (legal_along t.tree.start (t.path ++ k ∷ []) t.tree.below game.moves))

-- a node that has children is less than 20,000 plies deep
pub above_shallow : (t : TreeParts) → IsGameTree t → 0 < count (below_at t.path t.tree.below) → length t.path < 20000
above_shallow t game some =
    omega (arith, path_le_height t.path t.tree.below game.cursor, deeper (below_at t.path t.tree.below) some, game.deep)

child_move : (k : ℕ) (f : Forest) (n : NodeParts) → k < count f → (unwrap_or (child k f) n).move ≡ move_of k f
child_move k Bare n h = absurd (omega arith)
child_move zero (Node m nags comment below next) n h = refl
child_move (suc k) (Node m nags comment below next) n h = child_move k next n (omega arith)

child_below : (k : ℕ) (f : Forest) (n : NodeParts) → k < count f → (unwrap_or (child k f) n).below ≡ below_child k f
child_below k Bare n h = absurd (omega arith)
child_below zero (Node m nags comment below next) n h = refl
child_below (suc k) (Node m nags comment below next) n h = child_below k next n (omega arith)

move_on : (path : List ℕ) (k : ℕ) (n : NodeParts) → Leads path n.below → k < count (below_at path n.below) → (node_of (path ++ k ∷ []) n).move ≡ move_of k (below_at path n.below)
move_on [] k n leads h = child_move k n.below n h
move_on (j ∷ path) k n leads h =
    let below = child_below j n.below n leads.0 in
    let on = move_on path k (unwrap_or (child j n.below) n) (subst (Leads path) (sym below) leads.1) (subst (λ (x : Forest). k < count (below_at path x)) (sym below) h) in
    on ∙ ap (λ (x : Forest). move_of k (below_at path x)) below

-- the move that leads to a child
pub move_here : (t : TreeParts) (k : ℕ) → IsGameTree t → k < count (below_at t.path t.tree.below) → (here (at_path (t.path ++ k ∷ []) t)).move ≡ move_of k (below_at t.path t.tree.below)
move_here t k game h = move_on t.path k (root_node t.tree) game.cursor h

pub move_there : (k : ℕ) (f : Forest) → k < count f → move_of k f ≡ None → ⊥
move_there k f h e = omega (arith, one_move k f h, ap (λ (o : Option MoveParts). length (option_to_list o)) e)

-- ---- the child with a move

same_kind : (k l : Kind) → (kind_number k == kind_number l) ≡ true → k ≡ l
same_kind k l e = sym (kind_of-number k) ∙ ap kind_of (eqb-true _ _ e) ∙ kind_of-number l

same_promo : (a b : Option Kind) → option_eq (λ k l. kind_number k == kind_number l) a b ≡ true → a ≡ b
same_promo None None e = refl
same_promo None (Some l) e = absurd (false≢true e)
same_promo (Some k) None e = absurd (false≢true e)
same_promo (Some k) (Some l) e = ap (λ (x : Kind). Some x) (same_kind k l e)

same_move : (m n : MoveParts) → is_move m n ≡ true → m ≡ n
same_move m n e =
    let prefix = and_parts (m.from == n.from) _ e in
    let back = and_parts (m.to == n.to) _ prefix.1 in
    let from : m.from ≡ n.from = eqb-true _ _ prefix.0 in
    let to : m.to ≡ n.to = eqb-true _ _ back.0 in
    let promo = same_promo m.promo n.promo back.1 in
    λ i. record { from = from i; to = to i; promo = promo i }

-- a place that was found
abbrev IsFound : MoveParts → Forest → Option ℕ → Type 0
IsFound m f None = ⊤
IsFound m f (Some k) = (k < count f) × (move_of k f ≡ Some m)

found_on : (m n : MoveParts) (nags comment : List ℕ) (below next : Forest) (o : Option ℕ) → IsFound m next o → IsFound m (Node n nags comment below next) (option_map (λ k. suc k) o)
found_on m n nags comment below next None found = tt
found_on m n nags comment below next (Some k) found = (omega (arith, found.0), found.1)

found_if : (m n : MoveParts) (nags comment : List ℕ) (below next : Forest) (o : Option ℕ) (b : Bool) → is_move n m ≡ b → IsFound m next o
    → IsFound m (Node n nags comment below next) (if b then Some 0 else option_map (λ k. suc k) o)
found_if m n nags comment below next o true e found = (omega arith, ap (λ (x : MoveParts). Some x) (same_move n m e))
found_if m n nags comment below next o false e found = found_on m n nags comment below next o found

found : (m : MoveParts) (f : Forest) → IsFound m f (find m f)
found m Bare = tt
found m (Node n nags comment below next) = found_if m n nags comment below next (find m next) (is_move n m) refl (found m next)

pub find_some : (m : MoveParts) (f : Forest) (k : ℕ) → find m f ≡ Some k → (k < count f) × (move_of k f ≡ Some m)
find_some m f k e = subst (IsFound m f) e (found m f)

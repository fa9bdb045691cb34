-- A move taken back: after it was played all is as it was before, and whatever came between, at most one node goes.
use Rattle.std.proofs.Common.{◌≡◌, ℕ, zero, suc, ◌+◌, ◌<◌, ◌==◌, ◌&&◌, Bool, true, false, if◌then◌else◌, eqb-true, List, [], ◌∷◌, ◌++◌, length, Option, None, Some, refl, sym, ap, subst, ◌∙◌, inl, inr, arith}
use Rattle.std.specs.Prelude.{◌⊎◌, not, is_some, unwrap_or}
use Rattle.std.proofs.lemmas.Bool.{and_parts}
use Rattle.chess_types.specs.board.MoveParts.{MoveParts}
use Rattle.chess_tree.specs.Forest.{Forest, Bare, Node, NodeParts, below_at, below_child, child, count, moves_held}
use Rattle.chess_tree.specs.Edits.{change_below, change_node, inside, parent, with_move, without_node}
use Rattle.chess_tree.specs.GameTree.{TreeParts, added, at_path, changed, deleted, find, here, node_of, nodes_here, root_node}
use Rattle.chess_tree.specs.Plays.{led_to}
use Rattle.chess_tree.specs.Undo.{LosesOneAtMost, UndoesAdd, UndoesPlay, is_bare_node, undone}
use Rattle.chess_tree.specs.WellFormed.{Leads}
use Rattle.chess_tree.proofs.EditLemmas.{held_without}

-- ---- the node that was added is taken out

without_last : (m : MoveParts) (f : Forest) → without_node (count f) (with_move m f) ≡ f
without_last m Bare = refl
without_last m (Node n nags comment below next) = ap (λ (x : Forest). Node n nags comment below x) (without_last m next)

-- one change inside a node takes the other back
inside_back : (k : ℕ) (there back : Forest → Forest) (f : Forest) → back (there (below_child k f)) ≡ below_child k f → inside k back (inside k there f) ≡ f
inside_back k there back Bare e = refl
inside_back zero there back (Node m nags comment below next) e = ap (λ (x : Forest). Node m nags comment x next) e
inside_back (suc k) there back (Node m nags comment below next) e = ap (λ (x : Forest). Node m nags comment below x) (inside_back k there back next e)

node_inside : (g : ℕ → Forest → Forest) (k : ℕ) (path : List ℕ) (j : ℕ) (f : Forest) → change_node g (k ∷ (path ++ j ∷ [])) f ≡ inside k (change_node g (path ++ j ∷ [])) f
node_inside g k [] j f = refl
node_inside g k (i ∷ path) j f = refl

taken_out : (m : MoveParts) (path : List ℕ) (f : Forest) → change_node without_node (path ++ count (below_at path f) ∷ []) (change_below (with_move m) path f) ≡ f
taken_out m [] f = without_last m f
taken_out m (k ∷ path) f =
    let last = count (below_at path (below_child k f)) in
    node_inside without_node k path last (inside k (change_below (with_move m) path) f)
    ∙ inside_back k (change_below (with_move m) path) (change_node without_node (path ++ last ∷ [])) f (taken_out m path (below_child k f))

pub parent_of : (path : List ℕ) (k : ℕ) → parent (path ++ k ∷ []) ≡ path
parent_of [] k = refl
parent_of (j ∷ []) k = refl
parent_of (j ∷ i ∷ path) k = ap (λ (p : List ℕ). j ∷ p) (parent_of (i ∷ path) k)

deleted_added : (t : TreeParts) (m : MoveParts) → deleted (added m t) ≡ t
deleted_added t m =
    let path = t.path ++ count (nodes_here t) ∷ [] in
    λ i. record {
      tree = record { start = t.tree.start; comment = t.tree.comment; below = taken_out m t.path t.tree.below i };
      path = parent_of t.path (count (nodes_here t)) i;
    }

-- ---- nothing hangs on it

abbrev changed_node : (Forest → Forest) → NodeParts → NodeParts
changed_node change n = record { move = n.move; nags = n.nags; comment = n.comment; below = change n.below }

child_inside : (k : ℕ) (change : Forest → Forest) (f : Forest) (n d : NodeParts) → k < count f → unwrap_or (child k (inside k change f)) d ≡ changed_node change (unwrap_or (child k f) n)
child_inside k change Bare n d h = absurd (omega arith)
child_inside zero change (Node m nags comment below next) n d h = refl
child_inside (suc k) change (Node m nags comment below next) n d h = child_inside k change next n d (omega arith)

child_below : (k : ℕ) (f : Forest) (n : NodeParts) → k < count f → (unwrap_or (child k f) n).below ≡ below_child k f
child_below k Bare n h = absurd (omega arith)
child_below zero (Node m nags comment below next) n h = refl
child_below (suc k) (Node m nags comment below next) n h = child_below k next n (omega arith)

bare_last : (m : MoveParts) (f : Forest) (n : NodeParts) → is_bare_node (unwrap_or (child (count f) (with_move m f)) n) ≡ true
bare_last m Bare n = refl
bare_last m (Node k nags comment below next) n = bare_last m next n

bare_from : (m : MoveParts) (path : List ℕ) (n : NodeParts) → Leads path n.below
    → is_bare_node (node_of (path ++ count (below_at path n.below) ∷ []) (changed_node (change_below (with_move m) path) n)) ≡ true
bare_from m [] n leads = bare_last m n.below (changed_node (with_move m) n)
bare_from m (k ∷ path) n leads =
    let down = unwrap_or (child k n.below) n in
    let below : down.below ≡ below_child k n.below = child_below k n.below n leads.0 in
    let last = path ++ count (below_at path (below_child k n.below)) ∷ [] in
    let there = child_inside k (change_below (with_move m) path) n.below n (changed_node (change_below (with_move m) (k ∷ path)) n) leads.0 in
    let rest = bare_from m path down (subst (Leads path) (sym below) leads.1) in
    ap (λ (x : NodeParts). is_bare_node (node_of last x)) there
    ∙ ap (λ (x : Forest). is_bare_node (node_of (path ++ count (below_at path x) ∷ []) (changed_node (change_below (with_move m) path) down))) (sym below)
    ∙ rest

bare_added : (t : TreeParts) (m : MoveParts) → Leads t.path t.tree.below → is_bare_node (here (added m t)) ≡ true
bare_added t m leads = bare_from m t.path (root_node t.tree) leads

-- ---- the laws

undone_added : (t : TreeParts) (m : MoveParts) → Leads t.path t.tree.below → undone true (added m t) ≡ t
undone_added t m leads =
    ap (λ (b : Bool). if b then deleted (added m t) else at_path (parent (added m t).path) (added m t)) (bare_added t m leads) ∙ deleted_added t m

undone_led : (t : TreeParts) (m : MoveParts) (o : Option ℕ) → Leads t.path t.tree.below → undone (not (is_some o)) (led_to m t o) ≡ t
undone_led t m None leads = undone_added t m leads
undone_led t m (Some place) leads = ap (λ (path : List ℕ). at_path path t) (parent_of t.path place)

pub undoes_play : UndoesPlay
undoes_play t m leads = undone_led t m (find m (nodes_here t)) leads

pub undoes_add : UndoesAdd
undoes_add t m leads = undone_added t m leads

below_node : (path : List ℕ) (n : NodeParts) → Leads path n.below → (node_of path n).below ≡ below_at path n.below
below_node [] n leads = refl
below_node (k ∷ path) n leads =
    let down = unwrap_or (child k n.below) n in
    let below : down.below ≡ below_child k n.below = child_below k n.below n leads.0 in
    below_node path down (subst (Leads path) (sym below) leads.1) ∙ ap (below_at path) below

none_held : (f : Forest) → (count f == 0) ≡ true → moves_held f ≡ 0
none_held Bare e = refl
none_held (Node m nags comment below next) e = absurd (omega (arith, eqb-true _ _ e))

-- one node less, or none where there is no node to take out
one_less : (t : TreeParts) (path : List ℕ) → t.path ≡ path → Leads t.path t.tree.below → is_bare_node (here t) ≡ true
    → ((deleted t).tree ≡ t.tree) ⊎ (moves_held t.tree.below ≡ moves_held (deleted t).tree.below + 1)
one_less t [] is leads bare = inl (ap (λ (p : List ℕ). changed (change_node without_node p) t.tree) is)
one_less t (k ∷ path) is leads bare =
    let rest = and_parts (length (here t).nags == 0) _ bare in
    let none = and_parts (length (here t).comment == 0) _ rest.1 in
    let held : moves_held (below_at t.path t.tree.below) ≡ 0 = ap moves_held (sym (below_node t.path (root_node t.tree) leads)) ∙ none_held (here t).below none.1 in
    inr (omega (arith, held_without t.path t.tree.below leads (omega (arith, ap length is)), held))

loses_one : (t : TreeParts) (was_added bare : Bool) → Leads t.path t.tree.below → is_bare_node (here t) ≡ bare
    → ((if was_added && bare then deleted t else at_path (parent t.path) t).tree ≡ t.tree)
    ⊎ ((was_added ≡ true) × (bare ≡ true) × (moves_held t.tree.below ≡ moves_held (if was_added && bare then deleted t else at_path (parent t.path) t).tree.below + 1))
loses_one t false bare leads is = inl refl
loses_one t true false leads is = inl refl
loses_one t true true leads is = elim (one_less t t.path refl leads is) [ (inl same) ↦ inl same | (inr less) ↦ inr (refl, refl, less) ]

pub loses_one_at_most : LosesOneAtMost
loses_one_at_most was_added t leads = loses_one t was_added (is_bare_node (here t)) leads refl

-- A line put into the moves of a tree.
use Rattle.std.proofs.Common.{◌≡◌, ◌≢◌, ◌<◌, ◌≤◌, ℕ, zero, suc, ◌+◌, ◌&&◌, true, false, List, [], ◌∷◌, ◌++◌, length, refl, sym, ap, subst, ◌∙◌, arith, append_assoc, append-nil, inl, inr, take, get_or, length-append}
use Rattle.std.specs.Prelude.{Bool, Some, None, Result, Ok, Err, IfErr, IsErrAnd, OnOk, OnErr, MatchBool, MatchResult, bytes_eq, nat_lt}
use Rattle.std.proofs.lemmas.List.{take_more}
use Rattle.std.proofs.lemmas.Bool.{cases_Bool, cases_lt, true≢false}
use Rattle.std.specs.Cmp.Lexicographic.{bytes_decides}
use Rattle.chess_fen.specs.Reading.{fen_reading}
use Rattle.chess_fen.specs.Writing.{written}
use Rattle.chess_fen.specs.declared.fault.FenFault.{FenFault}
use Rattle.std.proofs.lemmas.Bool.Decides.{nat_tests}
use Rattle.chess_types.specs.board.MoveParts.{MoveParts}
use Rattle.chess_types.specs.board.Legal.{is_legal}
use Rattle.chess_types.specs.board.Lines.{Line, extended, last}
use Rattle.chess_types.specs.board.Position.{PositionParts}
use Rattle.chess_types.proofs.PlayLaws.{last_extended}
use Rattle.chess_tree.specs.Comments.{IsComment}
use Rattle.chess_tree.specs.Edits.{annotated, change_below, change_node, commented, inside, parent, without_node}
use Rattle.chess_tree.specs.Forest.{Forest, Bare, Node, NodeParts, append, below_at, below_child, child, count, height, moves_held}
use Rattle.chess_tree.specs.GameTree.{GameTree, TreeParts, added, annotated_here, at_path, changed, commented_here, commented_tree, deleted, find, has, line_along, line_to, nodes_here, root_node}
use Rattle.chess_tree.specs.WellFormed.{AreSound, Leads}
use Rattle.chess_tree.specs.declared.fault.TreeFault.{TreeFault}
use Rattle.chess_tree.specs.Calls.{Annotates, Comments}
use Rattle.chess_tree.specs.declared.fault.TreeFault.TheVariants.{AtRoot, Full, Memory, NoSuch}
use Rattle.chess_tree.proofs.LineLemmas.{find_some, line_on}
use Rattle.chess_edit.specs.Joined.{line_joined, line_alone}
use Rattle.chess_edit.specs.steps.Branches.{Begun, annotated_all, with_node}

-- ---- changes of what is below a node

inside_same : (k : ℕ) (g h : Forest → Forest) (f : Forest) → g (below_child k f) ≡ h (below_child k f) → inside k g f ≡ inside k h f
inside_same k g h Bare e = refl
inside_same zero g h (Node m nags comment below next) e = ap (λ (x : Forest). Node m nags comment x next) e
inside_same (suc k) g h (Node m nags comment below next) e = ap (λ (x : Forest). Node m nags comment below x) (inside_same k g h next e)

pub change_same : (g h : Forest → Forest) (path : List ℕ) (f : Forest) → g (below_at path f) ≡ h (below_at path f) → change_below g path f ≡ change_below h path f
change_same g h [] f e = e
change_same g h (k ∷ path) f e = inside_same k (change_below g path) (change_below h path) f (change_same g h path (below_child k f) e)

inside_twice : (k : ℕ) (g h : Forest → Forest) (f : Forest) → inside k g (inside k h f) ≡ inside k (λ x. g (h x)) f
inside_twice k g h Bare = refl
inside_twice zero g h (Node m nags comment below next) = refl
inside_twice (suc k) g h (Node m nags comment below next) = ap (λ (x : Forest). Node m nags comment below x) (inside_twice k g h next)

pub change_twice : (g h : Forest → Forest) (path : List ℕ) (f : Forest) → change_below g path (change_below h path f) ≡ change_below (λ x. g (h x)) path f
change_twice g h [] f = refl
change_twice g h (k ∷ path) f =
    inside_twice k (change_below g path) (change_below h path) f
    ∙ inside_same k (λ x. change_below g path (change_below h path x)) (change_below (λ x. g (h x)) path) f (change_twice g h path (below_child k f))

pub change_on : (g : Forest → Forest) (path rest : List ℕ) (f : Forest) → change_below g (path ++ rest) f ≡ change_below (λ x. change_below g rest x) path f
change_on g [] rest f = refl
change_on g (k ∷ path) rest f = inside_same k (change_below g (path ++ rest)) (change_below (λ x. change_below g rest x) path) f (change_on g path rest (below_child k f))

node_on : (g : ℕ → Forest → Forest) (path : List ℕ) (k : ℕ) (f : Forest) → change_node g (path ++ k ∷ []) f ≡ change_below (g k) path f
node_on g [] k f = refl
node_on g (j ∷ []) k f = inside_same j (change_node g (k ∷ [])) (change_below (g k) []) f refl
node_on g (j ∷ i ∷ path) k f = inside_same j (change_node g (i ∷ path ++ k ∷ [])) (change_below (g k) (i ∷ path)) f (node_on g (i ∷ path) k (below_child j f))

inside_none : (k : ℕ) (f : Forest) → inside k (λ x. x) f ≡ f
inside_none k Bare = refl
inside_none zero (Node m nags comment below next) = refl
inside_none (suc k) (Node m nags comment below next) = ap (λ (x : Forest). Node m nags comment below x) (inside_none k next)

pub change_none : (path : List ℕ) (f : Forest) → change_below (λ x. x) path f ≡ f
change_none [] f = refl
change_none (k ∷ path) f = inside_same k (change_below (λ x. x) path) (λ x. x) f (change_none path (below_child k f)) ∙ inside_none k f

-- two changes of what is below the node at a path, and one that does the same there
pub change_both : (g h both : Forest → Forest) (path : List ℕ) (f : Forest) → g (h (below_at path f)) ≡ both (below_at path f) → change_below g path (change_below h path f) ≡ change_below both path f
change_both g h both path f e = change_twice g h path f ∙ change_same (λ x. g (h x)) both path f e

-- ---- the last of the nodes side by side

pub append_none : (f : Forest) → append f Bare ≡ f
append_none Bare = refl
append_none (Node m nags comment below next) = ap (λ (x : Forest). Node m nags comment below x) (append_none next)

annotated_last : (n : ℕ) (f : Forest) (m : MoveParts) (nags comment : List ℕ) → annotated n (count f) (append f (Node m nags comment Bare Bare)) ≡ append f (Node m (nags ++ n ∷ []) comment Bare Bare)
annotated_last n Bare m nags comment = refl
annotated_last n (Node o ns c below next) m nags comment = ap (λ (x : Forest). Node o ns c below x) (annotated_last n next m nags comment)

commented_last : (text : List ℕ) (f : Forest) (m : MoveParts) (nags comment : List ℕ) → commented text (count f) (append f (Node m nags comment Bare Bare)) ≡ append f (Node m nags text Bare Bare)
commented_last text Bare m nags comment = refl
commented_last text (Node o ns c below next) m nags comment = ap (λ (x : Forest). Node o ns c below x) (commented_last text next m nags comment)

without_last : (f : Forest) (m : MoveParts) (nags comment : List ℕ) (below : Forest) → without_node (count f) (append f (Node m nags comment below Bare)) ≡ f
without_last Bare m nags comment below = refl
without_last (Node o ns c b next) m nags comment below = ap (λ (x : Forest). Node o ns c b x) (without_last next m nags comment below)

without_none : (f : Forest) → without_node (count f) f ≡ f
without_none Bare = refl
without_none (Node o ns c b next) = ap (λ (x : Forest). Node o ns c b x) (without_none next)

inside_last : (g : Forest → Forest) (f : Forest) (m : MoveParts) (nags comment : List ℕ) (below : Forest) → inside (count f) g (append f (Node m nags comment below Bare)) ≡ append f (Node m nags comment (g below) Bare)
inside_last g Bare m nags comment below = refl
inside_last g (Node o ns c b next) m nags comment below = ap (λ (x : Forest). Node o ns c b x) (inside_last g next m nags comment below)

-- ---- a node more, with its notes

parent_last : (path : List ℕ) (k : ℕ) → parent (path ++ k ∷ []) ≡ path
parent_last [] k = refl
parent_last (j ∷ []) k = refl
parent_last (j ∷ i ∷ path) k = ap (λ (x : List ℕ). j ∷ x) (parent_last (i ∷ path) k)

abbrev pub tree_of : TreeParts → Forest → GameTree
tree_of t f = record { start = t.tree.start; comment = t.tree.comment; below = f }

abbrev pub parts_of : TreeParts → List ℕ → Forest → TreeParts
parts_of t path f = record { tree = record { start = t.tree.start; comment = t.tree.comment; below = f }; path = path }

-- the parts of a tree whose moves are changed at the last child of the node at the cursor
at_last : (g : ℕ → Forest → Forest) (a b : Forest) (path : List ℕ) (f : Forest) → g (count (below_at path f)) (append (below_at path f) a) ≡ append (below_at path f) b
    → change_node g (path ++ count (below_at path f) ∷ []) (change_below (λ x. append x a) path f) ≡ change_below (λ x. append x b) path f
at_last g a b path f e =
    node_on g path (count (below_at path f)) (change_below (λ x. append x a) path f)
    ∙ change_both (g (count (below_at path f))) (λ x. append x a) (λ x. append x b) path f e

pub node_annotated : (n : ℕ) (m : MoveParts) (nags comment : List ℕ) (t : TreeParts) → annotated_here n (with_node m nags comment t) ≡ with_node m (nags ++ n ∷ []) comment t
node_annotated n m nags comment t =
    ap (parts_of t (t.path ++ count (below_at t.path t.tree.below) ∷ []))
    (at_last (annotated n) (Node m nags comment Bare Bare) (Node m (nags ++ n ∷ []) comment Bare Bare) t.path t.tree.below (annotated_last n (below_at t.path t.tree.below) m nags comment))

commented_on : (text path : List ℕ) (k : ℕ) (tree : GameTree) → commented_tree text (path ++ k ∷ []) tree ≡ changed (change_node (commented text) (path ++ k ∷ [])) tree
commented_on text [] k tree = refl
commented_on text (j ∷ path) k tree = refl

pub node_commented : (text : List ℕ) (m : MoveParts) (nags comment : List ℕ) (t : TreeParts) → commented_here text (with_node m nags comment t) ≡ with_node m nags text t
node_commented text m nags comment t =
    let path = t.path ++ count (below_at t.path t.tree.below) ∷ [] in
    ap (λ (x : GameTree). record { tree = x; path = path }) (commented_on text t.path (count (below_at t.path t.tree.below)) (with_node m nags comment t).tree)
    ∙ ap (parts_of t path)
    (at_last (commented text) (Node m nags comment Bare Bare) (Node m nags text Bare Bare) t.path t.tree.below (commented_last text (below_at t.path t.tree.below) m nags comment))

pub node_deleted : (m : MoveParts) (nags comment : List ℕ) (t : TreeParts) → deleted (with_node m nags comment t) ≡ t
node_deleted m nags comment t =
    let k = count (below_at t.path t.tree.below) in
    ap (λ (x : List ℕ). parts_of t x (change_node without_node (t.path ++ k ∷ []) (change_below (λ x. append x (Node m nags comment Bare Bare)) t.path t.tree.below))) (parent_last t.path k)
    ∙ ap (parts_of t t.path) (without_branch m nags comment Bare t.path t.tree.below)
  where
    without_branch : (m : MoveParts) (nags comment : List ℕ) (below : Forest) (path : List ℕ) (f : Forest)
        → change_node without_node (path ++ count (below_at path f) ∷ []) (change_below (λ x. append x (Node m nags comment below Bare)) path f) ≡ f
    without_branch m nags comment below path f =
        node_on without_node path (count (below_at path f)) (change_below (λ x. append x (Node m nags comment below Bare)) path f)
        ∙ change_both (without_node (count (below_at path f))) (λ x. append x (Node m nags comment below Bare)) (λ x. x) path f (without_last (below_at path f) m nags comment below)
        ∙ change_none path f

pub node_added : (m : MoveParts) (t : TreeParts) → added m t ≡ with_node m [] [] t
node_added m t = refl

pub all_on : (nags : List ℕ) (n : ℕ) (t : TreeParts) → annotated_all (nags ++ n ∷ []) t ≡ annotated_here n (annotated_all nags t)
all_on [] n t = refl
all_on (k ∷ nags) n t = all_on nags n (annotated_here k t)

pub node_noted : (some : List ℕ) (m : MoveParts) (nags comment : List ℕ) (t : TreeParts) → annotated_all some (with_node m nags comment t) ≡ with_node m (nags ++ some) comment t
node_noted [] m nags comment t = ap (λ (x : List ℕ). with_node m x comment t) (sym (append-nil nags))
node_noted (n ∷ some) m nags comment t =
    ap (annotated_all some) (node_annotated n m nags comment t) ∙ node_noted some m (nags ++ n ∷ []) comment t
    ∙ ap (λ (x : List ℕ). with_node m x comment t) (append_assoc nags (n ∷ []) some)

-- ---- a line, node by node

pub first_is : (f : Forest) (n : NodeParts) → child 0 f ≡ Some n → (m : MoveParts) × (next : Forest) × (f ≡ Node m n.nags n.comment n.below next) × (n.move ≡ Some m)
first_is Bare n e = absurd cc
first_is (Node m nags comment below next) n e =
    let is : record { move = Some m; nags = nags; comment = comment; below = below } ≡ n = cc in
    subst (λ (n : NodeParts). (o : MoveParts) × (x : Forest) × (Node m nags comment below next ≡ Node o n.nags n.comment n.below x) × (n.move ≡ Some o)) is (m, next, refl, refl)

pub none_first : (f : Forest) → child 0 f ≡ None → f ≡ Bare
none_first Bare e = refl
none_first (Node m nags comment below next) e = absurd cc

-- the tree once the rest of a line is added at the cursor
abbrev pub whole : TreeParts → Forest → GameTree
whole t line = changed (change_below (λ x. append x (line_alone line)) t.path) t.tree

pub whole_on : (t : TreeParts) (m : MoveParts) (nags comment : List ℕ) (below next : Forest) → whole (with_node m nags comment t) below ≡ whole t (Node m nags comment below next)
whole_on t m nags comment below next =
    let k = count (below_at t.path t.tree.below) in
    let one = Node m nags comment Bare Bare in
    let rest = λ (x : Forest). append x (line_alone below) in
    ap (tree_of t)
    (change_on rest t.path (k ∷ []) (change_below (λ x. append x one) t.path t.tree.below)
    ∙ change_both (λ x. change_below rest (k ∷ []) x) (λ x. append x one) (λ x. append x (line_alone (Node m nags comment below next))) t.path t.tree.below
    (inside_same k (change_below rest []) rest (append (below_at t.path t.tree.below) one) refl
    ∙ inside_last rest (below_at t.path t.tree.below) m nags comment Bare))

pub whole_end : (t : TreeParts) → whole t Bare ≡ t.tree
whole_end t = ap (tree_of t) (change_same (λ x. append x Bare) (λ x. x) t.path t.tree.below (append_none (below_at t.path t.tree.below)) ∙ change_none t.path t.tree.below)

pub begun_on : (old now : TreeParts) (m : MoveParts) (nags comment : List ℕ) → Begun old now → Begun old (with_node m nags comment now)
begun_on old now m nags comment (inl e) =
    subst (λ (t : TreeParts). Begun old (with_node m nags comment t)) (sym e) (inr (record { move = m; nags = nags; comment = comment; below = Bare; rest = []; path = refl; tree = refl }))
begun_on old now m nags comment (inr h) =
    let f = old.tree.below in
    let k = count (below_at old.path f) in
    let j = count (below_at now.path now.tree.below) in
    let one = λ (x : Forest). append x (Node m nags comment Bare Bare) in
    let branch = λ (x : Forest). append x (Node h.move h.nags h.comment h.below Bare) in
    let longer = λ (x : Forest). append x (Node h.move h.nags h.comment (change_below one h.rest h.below) Bare) in
    inr (
    record {
      move = h.move;
      nags = h.nags;
      comment = h.comment;
      below = change_below one h.rest h.below;
      rest = h.rest ++ j ∷ [];
      path = ap (λ (x : List ℕ). x ++ j ∷ []) h.path ∙ append_assoc old.path (k ∷ h.rest) (j ∷ []);
      tree =
          ap (λ (x : GameTree). changed (change_below one now.path) x) h.tree
          ∙ ap (λ (x : List ℕ). tree_of old (change_below one x (change_below branch old.path f))) h.path
          ∙ ap (tree_of old)
          (change_on one old.path (k ∷ h.rest) (change_below branch old.path f)
          ∙ change_both (λ x. change_below one (k ∷ h.rest) x) branch longer old.path f (inside_last (change_below one h.rest) (below_at old.path f) h.move h.nags h.comment h.below));
    }
    )

-- ---- and taken out again

count_last : (f : Forest) (m : MoveParts) (nags comment : List ℕ) (below : Forest) → count f < count (append f (Node m nags comment below Bare))
count_last Bare m nags comment below = omega arith
count_last (Node o ns c b next) m nags comment below = (let e = count_last next m nags comment below in omega (arith, e))

count_inside : (k : ℕ) (change : Forest → Forest) (f : Forest) → count (inside k change f) ≡ count f
count_inside k change Bare = refl
count_inside zero change (Node m nags comment below next) = refl
count_inside (suc k) change (Node m nags comment below next) = ap (λ (x : ℕ). suc x) (count_inside k change next)

below_inside : (k : ℕ) (change : Forest → Forest) (f : Forest) → k < count f → below_child k (inside k change f) ≡ change (below_child k f)
below_inside k change Bare h = absurd (omega arith)
below_inside zero change (Node m nags comment below next) h = refl
below_inside (suc k) change (Node m nags comment below next) h = below_inside k change next (omega arith)

both_true : (k n : ℕ) (path : List ℕ) (f : Forest) → k < n → has path f ≡ true → (nat_lt k n && has path f) ≡ true
both_true k n path f h e = grind (arith, nat_tests, h, e)

pub has_branch : (m : MoveParts) (nags comment : List ℕ) (below : Forest) (path : List ℕ) (f : Forest) → Leads path f
    → has (path ++ count (below_at path f) ∷ []) (change_below (λ x. append x (Node m nags comment below Bare)) path f) ≡ true
has_branch m nags comment below [] f l = both_true (count f) (count (append f (Node m nags comment below Bare))) [] (below_child (count f) (append f (Node m nags comment below Bare))) (count_last f m nags comment below) refl
has_branch m nags comment below (k ∷ path) f l =
    let change = change_below (λ x. append x (Node m nags comment below Bare)) path in
    let rest = path ++ count (below_at path (below_child k f)) ∷ [] in
    both_true k (count (inside k change f)) rest (below_child k (inside k change f)) (rw (count_inside k change f) l.0)
    (ap (has rest) (below_inside k change f l.0) ∙ has_branch m nags comment below path (below_child k f) l.1)

-- what was begun is there, or nothing was
pub begun_there : (old now : TreeParts) → Begun old now → Leads old.path old.tree.below → has (old.path ++ count (below_at old.path old.tree.below) ∷ []) now.tree.below ≡ false → now.tree ≡ old.tree
begun_there old now (inl e) l none = ap (λ (t : TreeParts). t.tree) e
begun_there old now (inr h) l none =
    let place = old.path ++ count (below_at old.path old.tree.below) ∷ [] in
    let there : has place now.tree.below ≡ true = ap (λ (x : GameTree). has place x.below) h.tree ∙ has_branch h.move h.nags h.comment h.below old.path old.tree.below l in
    absurd cc

pub begun_out : (old now : TreeParts) → Begun old now → (deleted (at_path (old.path ++ count (below_at old.path old.tree.below) ∷ []) now)).tree ≡ old.tree
begun_out old now (inl e) =
    let path = old.path in
    let f = old.tree.below in
    ap (λ (t : TreeParts). tree_of t (change_node without_node (path ++ count (below_at path f) ∷ []) t.tree.below)) e
    ∙ ap (tree_of old)
    (node_on without_node path (count (below_at path f)) f ∙ change_same (without_node (count (below_at path f))) (λ x. x) path f (without_none (below_at path f)) ∙ change_none path f)
begun_out old now (inr h) =
    let path = old.path in
    let f = old.tree.below in
    let k = count (below_at path f) in
    ap (λ (x : GameTree). changed (change_node without_node (path ++ k ∷ [])) x) h.tree
    ∙ ap (tree_of old)
    (node_on without_node path k (change_below (λ x. append x (Node h.move h.nags h.comment h.below Bare)) path f)
    ∙ change_both (without_node k) (λ x. append x (Node h.move h.nags h.comment h.below Bare)) (λ x. x) path f (without_last (below_at path f) h.move h.nags h.comment h.below)
    ∙ change_none path f)

-- ---- the cursor where it was

has_led : (path : List ℕ) (f : Forest) → Leads path f → has path f ≡ true
has_led [] f l = refl
has_led (k ∷ path) f l = both_true k (count f) path (below_child k f) l.0 (has_led path (below_child k f) l.1)

pub still_there : (place : List ℕ) (old now : TreeParts) → place ≡ old.path → now.tree ≡ old.tree → Leads old.path old.tree.below → has place now.tree.below ≡ true
still_there place old now e same l = ap (λ (x : List ℕ). has x now.tree.below) e ∙ ap (λ (t : GameTree). has old.path t.below) same ∙ has_led old.path old.tree.below l

pub all_back : (place : List ℕ) (old now new : TreeParts) → place ≡ old.path → now.tree ≡ old.tree → new ≡ at_path place now → new ≡ old
all_back place old now new e same is = is ∙ ap (λ (x : List ℕ). at_path x now) e ∙ ap (at_path old.path) (ap (λ (t : GameTree). record { tree = t; path = now.path }) same)

-- a step to a path that is there
pub no_fault : (place : List ℕ) (t : TreeParts) (r : Result (Unit {0}) TreeFault) → has place t.tree.below ≡ true
    → MatchResult r (λ _. has place t.tree.below ≡ true) (λ fault. (fault ≡ NoSuch) × (has place t.tree.below ≡ false)) → (fault : TreeFault) → r ≡ Err fault → ⊥
no_fault place t (Ok u) there at fault e = absurd cc
no_fault place t (Err x) there at fault e = true≢false (sym there ∙ at.1)

-- ---- along the moves that are there

pub along_on : (m : MoveParts) (nags comment : List ℕ) (below next : Forest) (path : List ℕ) (k : ℕ) (f : Forest) → find m (below_at path f) ≡ Some k
    → change_below (line_joined below) (path ++ k ∷ []) f ≡ change_below (line_joined (Node m nags comment below next)) path f
along_on m nags comment below next path k f e =
    change_on (line_joined below) path (k ∷ []) f
    ∙ change_same (λ x. change_below (line_joined below) (k ∷ []) x) (line_joined (Node m nags comment below next)) path f
    (inside_same k (change_below (line_joined below) []) (line_joined below) (below_at path f) refl ∙ sym (found (below_at path f) e))
  where
    found : (g : Forest) → find m g ≡ Some k → line_joined (Node m nags comment below next) g ≡ inside k (line_joined below) g
    found g is = rw is refl

pub ends_bare : (line f : Forest) → line ≡ Bare → line_joined line f ≡ append f (line_alone line)
ends_bare line f e = rw e (sym (append_none f))

pub ends_apart : (m : MoveParts) (nags comment : List ℕ) (below next line f : Forest) → line ≡ Node m nags comment below next → find m f ≡ None → line_joined line f ≡ append f (line_alone line)
ends_apart m nags comment below next line f e none = rw (e, none) refl

-- ---- the next node of a line

pub has_move : (f : Forest) (n : NodeParts) → child 0 f ≡ Some n → n.move ≡ None → ⊥
has_move f n e none = (let h = first_is f n e in absurd cc)

pub record NextOf (t : TreeParts) (f : Forest) (n : NodeParts) (m : MoveParts) : Type 0 where
  pub next : Forest
  pub is : f ≡ Node m n.nags n.comment n.below next
  pub legal : is_legal (last (line_to t)) m ≡ true
  pub comment : IsComment n.comment
  pub sound : (line : Line) → line ≡ extended (line_to t) m → AreSound (last line) n.below
  pub short : length t.path + 1 + height n.below ≤ 20000
  pub smaller : height n.below < height f

pub next_of : (t : TreeParts) (f : Forest) (n : NodeParts) (m : MoveParts) → child 0 f ≡ Some n → n.move ≡ Some m
    → AreSound (last (line_to t)) f → length t.path + height f ≤ 20000 → NextOf t f n m
next_of t f n m first move sound deep =
    let h = first_is f n first in
    let o : h.0 ≡ m = (let e = h.3 in cc) in
    let is : f ≡ Node m n.nags n.comment n.below h.1 = h.2 ∙ ap (λ (x : MoveParts). Node x n.nags n.comment n.below h.1) o in
    let s = subst (λ (x : Forest). AreSound (last (line_to t)) x) is sound in
    let high = ap height is in
    record {
      next = h.1;
      is = is;
      legal = s.0;
      comment = s.1;
      sound = λ line e. subst (λ (p : PositionParts). AreSound p n.below) (sym (ap last e ∙ last_extended (line_to t) m)) s.2;
      short = omega (arith, high, deep);
      smaller = omega (arith, high);
    }

-- ---- what calls answer

pub then : {P Q : Type 0} {T E : Type 0} (r : Result T E) → OnOk r P → (P → Q) → OnOk r Q
then (Ok u) p f = f p
then (Err e) p f = tt

pub else : {P Q : Type 0} {T E : Type 0} (r : Result T E) → OnErr r P → (P → Q) → OnErr r Q
else (Ok u) p f = tt
else (Err e) p f = f p

pub all_more : (nags : List ℕ) (i : ℕ) (old mid new : TreeParts) → i < length nags → mid ≡ annotated_all (take i nags) old → new ≡ annotated_here (get_or nags i 0) mid → new ≡ annotated_all (take (i + 1) nags) old
all_more nags i old mid new h e k =
    k ∙ ap (annotated_here (get_or nags i 0)) e ∙ sym (all_on (take i nags) (get_or nags i 0) old) ∙ ap (λ (x : List ℕ). annotated_all x old) (sym (take_more nags i 0 h))

-- the node at the cursor isn't the root, so it is taken out
pub gone : (r : Result (Unit {0}) TreeFault) (old new : TreeParts) → OnOk r (new ≡ deleted old) → MatchResult r (λ _. 0 < length old.path) (λ fault. (fault ≡ AtRoot) × (old.path ≡ [])) → 0 < length old.path → new ≡ deleted old
gone (Ok u) old new e k some = e
gone (Err fault) old new e k some = absurd (let n = ap length k.1 in omega (arith, n, some))

-- a node with some of its notes is taken out again
pub node_gone : (m : MoveParts) (some : List ℕ) (r : Result (Unit {0}) TreeFault) (old added_to noted new : TreeParts) → added_to ≡ added m old → noted ≡ annotated_all some added_to
    → OnOk r (new ≡ deleted noted) → MatchResult r (λ _. 0 < length noted.path) (λ fault. (fault ≡ AtRoot) × (noted.path ≡ [])) → new ≡ old
node_gone m some r old added_to noted new a n e k =
    let is : noted ≡ with_node m some [] old = n ∙ ap (annotated_all some) (a ∙ node_added m old) ∙ node_noted some m [] [] old in
    let deep : length noted.path ≡ length old.path + 1 = ap (λ (t : TreeParts). length t.path) is ∙ length-append old.path (count (below_at old.path old.tree.below) ∷ []) in
    gone r noted new e k (omega (arith, deep)) ∙ ap deleted is ∙ node_deleted m some [] old

-- and one with all its notes stays
pub node_whole : (m : MoveParts) (nags comment : List ℕ) (old added_to new : TreeParts) → added_to ≡ added m old → new ≡ commented_here comment (annotated_all nags added_to) → new ≡ with_node m nags comment old
node_whole m nags comment old added_to new a n =
    n ∙ ap (λ (t : TreeParts). commented_here comment (annotated_all nags t)) (a ∙ node_added m old)
    ∙ ap (commented_here comment) (node_noted nags m [] [] old) ∙ node_commented comment m nags [] old

-- what was begun is taken out
pub begun_undone : (old now new : TreeParts) (place : List ℕ) → Begun old now → Leads old.path old.tree.below → place ≡ old.path ++ count (below_at old.path old.tree.below) ∷ []
    → (has place now.tree.below ≡ true → new.tree ≡ (deleted (at_path place now)).tree) → (has place now.tree.below ≡ false → new.tree ≡ now.tree) → new.tree ≡ old.tree
begun_undone old now new place b l e taken none =
    elim (cases_Bool (has place now.tree.below)) [
      | inl there ↦ taken there ∙ ap (λ (x : List ℕ). (deleted (at_path x now)).tree) e ∙ begun_out old now b
      | inr nowhere ↦ none nowhere ∙ begun_there old now b l (ap (λ (x : List ℕ). has x now.tree.below) (sym e) ∙ nowhere)
    ]

-- the path to what is begun isn't the root's
pub place_deep : (place path : List ℕ) (k : ℕ) → place ≡ path ++ k ∷ [] → 0 < length place
place_deep place path k e = (let n = ap length e in let l = length-append path (k ∷ []) in omega (arith, n, l))

-- ---- the loops

-- one node of the line more is added
pub record Grown (old new : TreeParts) (line all : Forest) : Type 0 where
  pub begun : Begun old new
  pub goes : whole new line ≡ whole old all
  pub sound : AreSound (last (line_to new)) line
  pub deep : length new.path + height line ≤ 20000

pub grow_on : (old now new : TreeParts) (f all : Forest) (n : NodeParts) (m : MoveParts) (nags comment : List ℕ) → NextOf now f n m → nags ≡ n.nags → comment ≡ n.comment
    → new ≡ with_node m nags comment now → line_to new ≡ extended (line_to now) m → Grown old now f all → Grown old new n.below all
grow_on old now new f all n m nags comment next e1 e2 e line g =
    let is : new ≡ with_node m n.nags n.comment now = e ∙ ap (λ (x : List ℕ). with_node m x comment now) e1 ∙ ap (λ (x : List ℕ). with_node m n.nags x now) e2 in
    record {
      begun = subst (λ (t : TreeParts). Begun old t) (sym is) (begun_on old now m n.nags n.comment g.begun);
      goes = ap (λ (t : TreeParts). whole t n.below) is ∙ whole_on now m n.nags n.comment n.below next.next ∙ ap (whole now) (sym next.is) ∙ g.goes;
      sound = next.sound (line_to new) line;
      deep = (let l = ap (λ (t : TreeParts). length t.path) is in let a = length-append now.path (count (below_at now.path now.tree.below) ∷ []) in omega (arith, l, a, next.short));
    }

-- one move of both more
pub record Went (old new : TreeParts) (line all : Forest) : Type 0 where
  pub same : new.tree ≡ old.tree
  pub goes : change_below (line_joined line) new.path old.tree.below ≡ change_below (line_joined all) old.path old.tree.below
  pub sound : AreSound (last (line_to new)) line
  pub deep : length new.path + height line ≤ 20000

pub go_on : (old now new : TreeParts) (f all : Forest) (n : NodeParts) (m : MoveParts) (k : ℕ) → NextOf now f n m → find m (nodes_here now) ≡ Some k
    → new ≡ at_path (now.path ++ k ∷ []) now → Went old now f all → Went old new n.below all
go_on old now new f all n m k next found e w =
    let there = find_some m (nodes_here now) k found in
    let here : nodes_here now ≡ below_at now.path old.tree.below = ap (λ (t : GameTree). below_at now.path t.below) w.same in
    record {
      same = ap (λ (t : TreeParts). t.tree) e ∙ w.same;
      goes =
          ap (λ (t : TreeParts). change_below (line_joined n.below) t.path old.tree.below) e
          ∙ along_on m n.nags n.comment n.below next.next now.path k old.tree.below (ap (find m) (sym here) ∙ found)
          ∙ ap (λ (x : Forest). change_below (line_joined x) now.path old.tree.below) (sym next.is) ∙ w.goes;
      sound = next.sound (line_to new) (ap line_to e ∙ line_on now k m there.1);
      deep = (let l = ap (λ (t : TreeParts). length t.path) e in let a = length-append now.path (k ∷ []) in omega (arith, l, a, next.short));
    }

-- a step to a child that is there
pub stepped : (r : Result (Unit {0}) TreeFault) (m : MoveParts) (f : Forest) (k : ℕ) → find m f ≡ Some k → MatchResult r (λ _. k < count f) (λ fault. (fault ≡ NoSuch) × (count f ≤ k)) → (fault : TreeFault) → r ≡ Err fault → ⊥
stepped (Ok u) m f k found at fault e = absurd cc
stepped (Err x) m f k found at fault e = (let h = find_some m f k found in absurd (omega (arith, h.0, at.1)))

-- where the moves part, the rest of the line comes after the others
pub ends_where_none : (m : MoveParts) (n : NodeParts) (now : TreeParts) (f g : Forest) → NextOf now f n m → find m g ≡ None → line_joined f g ≡ append g (line_alone f)
ends_where_none m n now f g next none = ends_apart m n.nags n.comment n.below next.next f g next.is none

-- the whole: along the moves of both, and the rest added there
pub all_joined : (old mid new : TreeParts) (rest all : Forest) → mid.tree ≡ old.tree → change_below (line_joined rest) mid.path old.tree.below ≡ change_below (line_joined all) [] old.tree.below
    → line_joined rest (nodes_here mid) ≡ append (nodes_here mid) (line_alone rest) → new.tree ≡ whole mid rest → new.tree ≡ changed (line_joined all) old.tree
all_joined old mid new rest all same goes ends added_all =
    added_all
    ∙ ap (tree_of mid) (sym (change_same (line_joined rest) (λ x. append x (line_alone rest)) mid.path mid.tree.below ends))
    ∙ ap (λ (t : GameTree). changed (change_below (line_joined rest) mid.path) t) same
    ∙ ap (tree_of old) goes

pub unless : {P : Type 0} {T E : Type 0} (r : Result T E) → ((e : E) → r ≡ Err e → ⊥) → OnOk r P → P
unless (Ok u) other p = p
unless (Err e) other p = absurd (other e refl)

-- ---- two trees

-- what is below the root is sound in the tree's own start
last_at_root : (tree : GameTree) → last (line_along [] tree) ≡ tree.start
unfolding last
last_at_root tree = refl

pub root_sound : (t : TreeParts) (s : PositionParts) (f : Forest) → t.path ≡ [] → t.tree.start ≡ s → AreSound s f → AreSound (last (line_to t)) f
root_sound t s f root start sound = subst (λ (p : PositionParts). AreSound p f) (sym (ap (λ (x : List ℕ). last (line_along x t.tree)) root ∙ last_at_root t.tree ∙ start)) sound

pub joined_trees : (old at_start mid grown new : TreeParts) (root : NodeParts) (other : GameTree) (rest : Forest) → at_start ≡ at_path [] old → root ≡ root_node other → mid.tree ≡ at_start.tree
    → change_below (line_joined rest) mid.path at_start.tree.below ≡ change_below (line_joined root.below) at_start.path at_start.tree.below
    → line_joined rest (nodes_here mid) ≡ append (nodes_here mid) (line_alone rest) → grown.tree ≡ whole mid rest → new ≡ at_path [] grown → new.tree ≡ changed (line_joined other.below) old.tree
joined_trees old at_start mid grown new root other rest e1 e2 same goes ends added_all e3 =
    let s : at_start.tree ≡ old.tree = ap (λ (t : TreeParts). t.tree) e1 in
    let all : change_below (line_joined rest) mid.path old.tree.below ≡ change_below (line_joined other.below) [] old.tree.below =
    ap (λ (t : GameTree). change_below (line_joined rest) mid.path t.below) (sym s) ∙ goes
    ∙ ap (λ (t : TreeParts). change_below (line_joined root.below) t.path t.tree.below) e1 ∙ ap (λ (n : NodeParts). line_joined n.below old.tree.below) e2 in
    ap (λ (t : TreeParts). t.tree) e3 ∙ all_joined old mid grown rest other.below (same ∙ s) all ends added_all

-- the FEN of a position is no other's
pub alike : (b : Bool) (x y : List ℕ) (p q : PositionParts) → b ≡ bytes_eq x y → x ≡ written p → y ≡ written q → fen_reading x ≡ Ok p → fen_reading y ≡ Ok q → MatchBool b (p ≡ q) (p ≢ q)
alike true x y p q e w v r s = ok_is p q (sym r ∙ ap fen_reading ((bytes_decides x y).0 (sym e)) ∙ s)
  where
    ok_is : (p q : PositionParts) → ◌≡◌ {A = Result PositionParts FenFault} (Ok p) (Ok q) → p ≡ q
    ok_is p q e = cc
alike false x y p q e w v r s = λ same. true≢false (sym ((bytes_decides x y).1 (w ∙ ap written same ∙ sym v)) ∙ sym e)

-- a path, and one place more
pub place_is : (slice items path old : List ℕ) (k : ℕ) → slice ≡ items → items ≡ path ++ k ∷ [] → path ≡ old → slice ≡ old ++ k ∷ []
place_is slice items path old k e i p = e ∙ i ∙ ap (λ (x : List ℕ). x ++ k ∷ []) p

-- the FEN of a tree's start is read as it
pub fen_read : (text bytes : List ℕ) (p start : PositionParts) → text ≡ bytes → p ≡ start → start.clock ≤ 99999 → start.number ≤ 99999
    → (p.clock ≤ 99999 → p.number ≤ 99999 → fen_reading bytes ≡ Ok p) → fen_reading text ≡ Ok start
fen_read text bytes p start e is clock number read =
    ap fen_reading e ∙ read (let c = ap (λ (s : PositionParts). s.clock) is in omega (arith, c, clock)) (let n = ap (λ (s : PositionParts). s.number) is in omega (arith, n, number)) ∙ ap (λ (s : PositionParts). Ok s) is

-- ---- why a line isn't added

full_is : (P : TreeFault → Type 0) (r : Result (Unit {0}) TreeFault) → IfErr r P → r ≡ Err Full → P Full
full_is P r h e = subst (λ (x : Result (Unit {0}) TreeFault). IfErr x P) e h

not_memory : (fault : TreeFault) → fault ≡ Full → fault ≡ Memory → ⊥
not_memory fault e m = absurd cc

-- a fault that is handed on
err_is : (x y : TreeFault) → ◌≡◌ {A = Result (Unit {0}) TreeFault} (Err x) (Err y) → x ≡ y
err_is x y e = cc

pub handed_on : (x : TreeFault) (r told : Result (Unit {0}) TreeFault) → r ≡ Err x → IsErrAnd told (λ y. y ≡ x) → told ≡ Err Full → r ≡ Err Full
handed_on x r (Ok u) is same e = absurd same
handed_on x r (Err y) is same e = is ∙ ap (λ (z : TreeFault). Err z) (sym same ∙ err_is y Full e)

-- an annotation number is refused at the root, and for want of memory
pub nag_room : (nag : ℕ) (old new : TreeParts) (r : Result (Unit {0}) TreeFault) → Annotates nag old r new → r ≡ Err Full → ⊥
nag_room nag old new r a e = by_path old.path refl
  where
    by_path : (path : List ℕ) → old.path ≡ path → ⊥
    by_path [] is = (let root = a.at_root is in absurd cc)
    by_path (k ∷ path) is = not_memory Full refl (full_is (λ fault. fault ≡ Memory) r (a.memory (let l = ap length is in omega (arith, l))) e)

-- a comment without a right brace for want of memory alone
pub comment_room : (text : List ℕ) (old new : TreeParts) (r : Result (Unit {0}) TreeFault) → Comments text old r new → IsComment text → r ≡ Err Full → ⊥
comment_room text old new r c is e = not_memory Full refl (full_is (λ fault. fault ≡ Memory) r (c.memory is.no_brace) e)

-- ---- how many moves

held_append : (f g : Forest) → moves_held (append f g) ≡ moves_held f + moves_held g
held_append Bare g = omega arith
held_append (Node m nags comment below next) g = omega (arith, held_append next g)

held_inside : (k : ℕ) (change : Forest → Forest) (f : Forest) → k < count f
    → moves_held (inside k change f) + moves_held (below_child k f) ≡ moves_held f + moves_held (change (below_child k f))
held_inside k change Bare h = absurd (omega arith)
held_inside zero change (Node m nags comment below next) h = omega arith
held_inside (suc k) change (Node m nags comment below next) h = omega (arith, held_inside k change next (omega arith))

-- a node more is a move more
held_node : (m : MoveParts) (nags comment path : List ℕ) (f : Forest) → Leads path f → moves_held (change_below (λ x. append x (Node m nags comment Bare Bare)) path f) ≡ moves_held f + 1
held_node m nags comment [] f h = omega (arith, held_append f (Node m nags comment Bare Bare))
held_node m nags comment (k ∷ path) f h =
    omega (arith, held_inside k (change_below (λ x. append x (Node m nags comment Bare Bare)) path) f h.0, held_node m nags comment path (below_child k f) h.1)

inside_grows : (k : ℕ) (change : Forest → Forest) (f : Forest) → ((g : Forest) → moves_held g ≤ moves_held (change g)) → moves_held f ≤ moves_held (inside k change f)
inside_grows k change Bare h = omega arith
inside_grows zero change (Node m nags comment below next) h = omega (arith, h below)
inside_grows (suc k) change (Node m nags comment below next) h = omega (arith, inside_grows k change next h)

-- with more nodes there are no fewer moves
held_grows : (line : Forest) (path : List ℕ) (f : Forest) → moves_held f ≤ moves_held (change_below (λ x. append x line) path f)
held_grows line [] f = omega (arith, held_append f line)
held_grows line (k ∷ path) f = inside_grows k (change_below (λ x. append x line) path) f (λ g. held_grows line path g)

-- a tree that can't have a node more is full
pub node_full : (m : MoveParts) (nags comment : List ℕ) (t : TreeParts) (r : Result (Unit {0}) TreeFault) → Leads t.path t.tree.below
    → (moves_held t.tree.below < 1000000 → IfErr r (λ fault. fault ≡ Memory)) → r ≡ Err Full → 1000000 < moves_held (with_node m nags comment t).tree.below
node_full m nags comment t r leads memory e =
    elim (cases_lt (moves_held t.tree.below) 1000000) [
      | inl few ↦ absurd (not_memory Full refl (full_is (λ fault. fault ≡ Memory) r (memory few) e))
      | inr many ↦ omega (arith, many, held_node m nags comment t.path t.tree.below leads)
    ]

-- and so is the tree once the rest of the line is added
pub line_full : (old now : TreeParts) (m : MoveParts) (n : NodeParts) (nags comment : List ℕ) (f all : Forest) → NextOf now f n m → nags ≡ n.nags → comment ≡ n.comment
    → 1000000 < moves_held (with_node m nags comment now).tree.below → whole now f ≡ whole old all → 1000000 < moves_held (whole old all).below
line_full old now m n nags comment f all next e1 e2 over goes =
    let one : with_node m nags comment now ≡ with_node m n.nags n.comment now = ap (λ (x : List ℕ). with_node m x comment now) e1 ∙ ap (λ (x : List ℕ). with_node m n.nags x now) e2 in
    let more : whole (with_node m n.nags n.comment now) n.below ≡ whole old all = whole_on now m n.nags n.comment n.below next.next ∙ ap (whole now) (sym next.is) ∙ goes in
    let t = with_node m n.nags n.comment now in
    let held = ap (λ (x : GameTree). moves_held x.below) more in
    let same = ap (λ (x : TreeParts). moves_held x.tree.below) one in
    omega (arith, over, same, held, held_grows (line_alone n.below) t.path t.tree.below)

-- of the whole: along the moves of both, and the rest added there
pub joined_full : (old at_start mid : TreeParts) (root : NodeParts) (other : GameTree) (rest : Forest) → at_start ≡ at_path [] old → root ≡ root_node other → mid.tree ≡ at_start.tree
    → change_below (line_joined rest) mid.path at_start.tree.below ≡ change_below (line_joined root.below) at_start.path at_start.tree.below
    → line_joined rest (nodes_here mid) ≡ append (nodes_here mid) (line_alone rest) → 1000000 < moves_held (whole mid rest).below → 1000000 < moves_held (line_joined other.below old.tree.below)
joined_full old at_start mid root other rest e1 e2 same goes ends over =
    let grown : TreeParts = record { tree = whole mid rest; path = [] } in
    let is = joined_trees old at_start mid grown (at_path [] grown) root other rest e1 e2 same goes ends refl refl in
    subst (λ (t : GameTree). 1000000 < moves_held t.below) is over

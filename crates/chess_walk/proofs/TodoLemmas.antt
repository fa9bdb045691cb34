-- What a walk keeps of the nodes to come: one kept more, and the first of nodes side by side.
use Rattle.std.proofs.Common.{◌≡◌, ℕ, ◌+◌, ◌<◌, ◌≤◌, true, false, length, List, [], ◌∷◌, ◌++◌, Option, Some, None, refl, sym, ap, ◌∙◌, append_assoc, append-nil, arith}
use Rattle.std.specs.Prelude.{is_none, if◌then◌else◌, unwrap_or}
use Rattle.std.proofs.lemmas.Bool.{true≢false}
use Rattle.std.proofs.lemmas.List.{length-append}
use Rattle.chess_types.specs.board.MoveParts.{MoveParts}
use Rattle.chess_tree.specs.Forest.{Forest, Bare, Node, NodeParts, child, height}
use Rattle.chess_tree.specs.Edits.{without_node}
use Rattle.chess_walk.specs.Order.{Visit, of_main, visits, resumed}
use Rattle.chess_walk.specs.steps.Todos.{AreFit, Fits, all_left, is_some_node, left_as, left_of}
use Rattle.chess_walk.specs.declared.walk.Kind.{Kind}
use Rattle.chess_walk.specs.declared.walk.Kind.TheVariants.{Main, Line, Variations}
use Rattle.chess_walk.specs.declared.walk.Todo.{Todo}

pub all_left-push : {A : Type 0} (ts : List (Todo A)) (t : Todo A) → all_left (ts ++ t ∷ []) ≡ left_of t ++ all_left ts
all_left-push [] t = sym (append-nil (left_of t))
all_left-push (x ∷ ts) t = ap (λ (vs : List Visit). vs ++ left_of x) (all_left-push ts t) ∙ append_assoc (left_of t) (all_left ts) (left_of x)

pub fit-push : {A : Type 0} (ts : List (Todo A)) (t : Todo A) → AreFit ts → Fits t → AreFit (ts ++ t ∷ [])
fit-push [] t are fits = (fits, tt)
fit-push (x ∷ ts) t are fits = (are.0, fit-push ts t are.1 fits)

pub fit-pop : {A : Type 0} (ts : List (Todo A)) (t : Todo A) → AreFit (ts ++ t ∷ []) → AreFit ts × Fits t
fit-pop [] t are = (tt, are.0)
fit-pop (x ∷ ts) t are =
    let rest = fit-pop ts t are.1 in
    ((are.0, rest.0), rest.1)

-- no node
pub none_left : (kind : Kind) (depth level : ℕ) (again : Option MoveParts) (f : Forest) → is_none (child 0 f) ≡ true → left_as kind depth level again f ≡ []
none_left Main depth level again Bare none = refl
none_left Line depth level again Bare none = refl
none_left Variations depth level again Bare none = refl
none_left kind depth level again (Node m nags comment below next) none = absurd (true≢false (sym none))

pub some_is : (f : Forest) → is_none (child 0 f) ≡ false → is_some_node f ≡ true
some_is Bare some = absurd (true≢false some)
some_is (Node m nags comment below next) some = refl

pub there_is : (f : Forest) → is_some_node f ≡ true → None ≡ child 0 f → ⊥
there_is Bare some none = true≢false (sym some)
there_is (Node m nags comment below next) some none = true≢false (ap is_none none)

-- ---- the first of nodes side by side

node_there : (f : Forest) (node : NodeParts) (m : MoveParts) (nags comment : List ℕ) (below : Forest) →
    Some node ≡ Some (record { move = Some m; nags = nags; comment = comment; below = below }) → node ≡ record { move = Some m; nags = nags; comment = comment; below = below }
node_there f node m nags comment below is = ap (λ (o : Option NodeParts). unwrap_or o node) is

resumed_is : (m : MoveParts) (next : Forest) → (if is_none (child 0 next) then None else Some m) ≡ resumed m next
resumed_is m Bare = refl
resumed_is m (Node n nags comment below next) = refl

pub nothing : (node : NodeParts) → Some node ≡ None → ⊥
nothing node is = true≢false (sym (ap is_none is))

pub main_first :
    (depth level : ℕ) (again : Option MoveParts) (f below : Forest) (node : NodeParts) → Some node ≡ child 0 f → below ≡ node.below →
    left_as Main depth level again f ≡ record { depth = depth; level = 0; begins = false; again = None; node = node } ∷ left_as Main (depth + 1) 0 None below
main_first depth level again Bare below node is below_is = absurd (nothing node is)
main_first depth level again (Node m nags comment b next) below node is below_is =
    let n = node_there Bare node m nags comment b is in
    let bl : b ≡ below = sym (below_is ∙ ap (λ (x : NodeParts). x.below) n) in
    λ i. record { depth = depth; level = 0; begins = false; again = None; node = sym n i } ∷ of_main (depth + 1) (bl i)

pub line_first :
    (depth level : ℕ) (again goes_on : Option MoveParts) (f rest below : Forest) (node : NodeParts) → Some node ≡ child 0 f → rest ≡ without_node 0 f →
    below ≡ node.below → goes_on ≡ (if is_none (child 0 rest) then None else node.move) →
    left_as Line depth level again f
    ≡ record { depth = depth; level = level; begins = false; again = again; node = node }
    ∷ (left_as Variations depth (level + 1) None rest ++ left_as Line (depth + 1) level goes_on below)
line_first depth level again goes_on Bare rest below node is rest_is below_is goes_is = absurd (nothing node is)
line_first depth level again goes_on (Node m nags comment b next) rest below node is rest_is below_is goes_is =
    let n = node_there Bare node m nags comment b is in
    let r : next ≡ rest = sym rest_is in
    let bl : b ≡ below = sym (below_is ∙ ap (λ (x : NodeParts). x.below) n) in
    let on : resumed m next ≡ goes_on = sym (goes_is ∙ (λ i. if is_none (child 0 (rest_is i)) then None else (n i).move) ∙ resumed_is m next) in
    λ i. record { depth = depth; level = level; begins = false; again = again; node = sym n i }
    ∷ (visits true depth (level + 1) None (r i) ++ visits false (depth + 1) level (on i) (bl i))

pub variation_first :
    (depth level : ℕ) (again : Option MoveParts) (f rest below : Forest) (node : NodeParts) → Some node ≡ child 0 f → rest ≡ without_node 0 f →
    below ≡ node.below →
    left_as Variations depth level again f
    ≡ record { depth = depth; level = level; begins = true; again = None; node = node }
    ∷ (left_as Line (depth + 1) level None below ++ left_as Variations depth level None rest)
variation_first depth level again Bare rest below node is rest_is below_is = absurd (nothing node is)
variation_first depth level again (Node m nags comment b next) rest below node is rest_is below_is =
    let n = node_there Bare node m nags comment b is in
    let r : next ≡ rest = sym rest_is in
    let bl : b ≡ below = sym (below_is ∙ ap (λ (x : NodeParts). x.below) n) in
    λ i. record { depth = depth; level = level; begins = true; again = None; node = sym n i }
    ∷ (visits false (depth + 1) level None (bl i) ++ visits true depth level None (r i))

-- what follows the first is less high, and the others are no higher
pub first_heights : (f rest : Forest) (node : NodeParts) → Some node ≡ child 0 f → rest ≡ without_node 0 f → (1 + height node.below ≤ height f) × (height rest ≤ height f)
first_heights Bare rest node is rest_is = absurd (nothing node is)
first_heights (Node m nags comment b next) rest node is rest_is =
    let n = node_there Bare node m nags comment b is in
    let below : height node.below ≡ height b = ap (λ (x : NodeParts). height x.below) n in
    let others : height rest ≡ height next = ap height rest_is in
    (omega arith, omega arith)

-- ---- what is kept after a visit

pub kept_one : (v : Visit) (first old one whole : List Visit) → whole ≡ v ∷ first → one ≡ first ++ old → whole ++ old ≡ v ∷ one
kept_one v first old one whole is kept = ap (λ (vs : List Visit). vs ++ old) is ∙ ap (λ (vs : List Visit). v ∷ vs) (sym kept)

pub kept_two : (v : Visit) (first second old one two whole : List Visit) → whole ≡ v ∷ (first ++ second) → one ≡ second ++ old → two ≡ first ++ one → whole ++ old ≡ v ∷ two
kept_two v first second old one two whole is kept kept_more =
    ap (λ (vs : List Visit). vs ++ old) is ∙ ap (λ (vs : List Visit). v ∷ vs) (append_assoc first second old ∙ ap (λ (vs : List Visit). first ++ vs) (sym kept) ∙ sym kept_more)

some_left : (kind : Kind) (depth level : ℕ) (again : Option MoveParts) (f : Forest) → is_some_node f ≡ true → 0 < length (left_as kind depth level again f)
some_left Main depth level again Bare some = absurd (true≢false (sym some))
some_left Line depth level again Bare some = absurd (true≢false (sym some))
some_left Variations depth level again Bare some = absurd (true≢false (sym some))
some_left Main depth level again (Node m nags comment below next) some = omega arith
some_left Line depth level again (Node m nags comment below next) some = omega arith
some_left Variations depth level again (Node m nags comment below next) some = omega arith

-- where something is kept, a visit is to come
pub some_to_come : {A : Type 0} (ts : List (Todo A)) → AreFit ts → 0 < length ts → 0 < length (all_left ts)
some_to_come [] are some = absurd (omega arith)
some_to_come (t ∷ ts) are some =
    let first = some_left t.kind t.depth t.level t.again t.nodes are.0.some in
    let all = length-append (all_left ts) (left_of t) in
    omega (arith, first, all)

pub one_fewer : (v : Visit) (old new : List Visit) → old ≡ v ∷ new → length new < length old
one_fewer v old new is = let all = ap length is in omega arith

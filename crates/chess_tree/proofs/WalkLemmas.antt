-- Walks of the cursor: to the root, along the main continuations, and along a path.
use Rattle.std.proofs.Common.{◌≡◌, ℕ, zero, suc, ◌+◌, ◌<◌, ◌≤◌, ◌&&◌, Bool, true, false, nat_lt, List, [], ◌∷◌, ◌++◌, length, get_or, take, drop, Option, None, Some, refl, sym, ap, ◌∙◌, arith, append_assoc, append-nil}
use Rattle.std.specs.Prelude.{Result, Ok, Err, is_ok}
use Rattle.std.proofs.lemmas.Bool.{and_parts, false≢true}
use Rattle.std.proofs.lemmas.Bool.Decides.{nat_tests}
use Rattle.std.proofs.lemmas.List.{at_drop_more}
use Rattle.std.proofs.lemmas.Option.{none-some}
use Rattle.chess_tree.specs.Forest.{Forest, Bare, Node, NodeParts, below_at, below_child, child, count}
use Rattle.chess_tree.specs.declared.fault.TreeFault.{TreeFault}
use Rattle.chess_tree.specs.Calls.{GoesToEnd, StepsDown, StepsUp}
use Rattle.chess_tree.specs.Edits.{parent}
use Rattle.chess_tree.specs.GameTree.{TreeParts, at_path, has, line_to, main_line, nodes_here}
use Rattle.chess_tree.specs.WellFormed.{Leads}
use Rattle.chess_tree.proofs.LineLemmas.{along_append}

-- ---- whether a path leads to a node

no_place : (k : ℕ) (f : Forest) → child k f ≡ None → count f ≤ k
no_place k Bare e = omega arith
no_place zero (Node m nags comment below next) e = absurd (none-some _ (sym e))
no_place (suc k) (Node m nags comment below next) e = omega (arith, no_place k next e)

abbrev below_of : Option NodeParts → Forest
below_of None = Bare
below_of (Some n) = n.below

some_place : (k : ℕ) (f : Forest) (n : NodeParts) → child k f ≡ Some n → (k < count f) × (below_child k f ≡ n.below)
some_place k Bare n e = absurd (none-some n e)
some_place zero (Node m nags comment below next) n e = (omega arith, ap below_of e)
some_place (suc k) (Node m nags comment below next) n e =
    let rest = some_place k next n e in
    (omega (arith, rest.0), rest.1)

has_none : (k : ℕ) (rest : List ℕ) (f : Forest) → child k f ≡ None → has (k ∷ rest) f ≡ false
has_none k rest f e =
    let none = no_place k f e in
    let test : nat_lt k (count f) ≡ false = grind (arith, nat_tests) in
    ap (λ (b : Bool). b && has rest (below_child k f)) test

has_some : (k : ℕ) (rest : List ℕ) (f : Forest) (n : NodeParts) → child k f ≡ Some n → has (k ∷ rest) f ≡ has rest n.below
has_some k rest f n e =
    let some = some_place k f n e in
    let within = some.0 in
    let test : nat_lt k (count f) ≡ true = grind (arith, nat_tests) in
    ap (λ (b : Bool). b && has rest (below_child k f)) test ∙ ap (has rest) some.1

pub has_not : (path : List ℕ) (i : ℕ) (f g : Forest) → has (drop i path) f ≡ has path g → i < length path → None ≡ child (get_or path i 0) f
    → false ≡ has path g
has_not path i f g loop within e =
    sym (has_none (get_or path i 0) (drop (i + 1) path) f (sym e)) ∙ sym (at_drop_more (λ (p : List ℕ). has p f) path i 0 within) ∙ loop

pub has_on : (path : List ℕ) (i : ℕ) (f g : Forest) (n : NodeParts) → has (drop i path) f ≡ has path g → i < length path
    → Some n ≡ child (get_or path i 0) f → has (drop (i + 1) path) n.below ≡ has path g
has_on path i f g n loop within e =
    sym (has_some (get_or path i 0) (drop (i + 1) path) f n (sym e)) ∙ sym (at_drop_more (λ (p : List ℕ). has p f) path i 0 within) ∙ loop

-- each place of it is one that the node there has
pub has_place : (path : List ℕ) (i : ℕ) (f : Forest) → has path f ≡ true → i < length path → get_or path i 0 < count (below_at (take i path) f)
has_place [] i f h within = absurd (omega arith)
has_place (k ∷ path) zero f h within =
    let some = (and_parts (nat_lt k (count f)) (has path (below_child k f)) h).0 in
    grind (arith, nat_tests)
has_place (k ∷ path) (suc i) f h within = has_place path i (below_child k f) (and_parts (nat_lt k (count f)) (has path (below_child k f)) h).1 (omega arith)

-- where there is a node at a path, each step on the way finds its child
pub goes_on : (path : List ℕ) (i : ℕ) (start now : TreeParts) → has path start.tree.below ≡ true → i < length path → now.tree ≡ start.tree → now.path ≡ take i path
    → count (nodes_here now) ≤ get_or path i 0 → ⊥
goes_on path i start now there within tree path_is none =
    let some = has_place path i start.tree.below there within in
    let same : nodes_here now ≡ below_at (take i path) start.tree.below = λ j. below_at (path_is j) (tree j).below in
    omega (arith, some, none, ap count same)

-- ---- to the root

pub length_parent : (path : List ℕ) → 0 < length path → length (parent path) + 1 ≡ length path
length_parent [] h = absurd (omega arith)
length_parent (k ∷ []) h = omega arith
length_parent (k ∷ j ∷ path) h = omega (arith, length_parent (j ∷ path) (omega arith))

pub back_smaller : (r : Result (Unit {0}) TreeFault) (old new : TreeParts) → is_ok r ≡ true → StepsUp (λ t. at_path (parent t.path) t) old r new
    → length new.path < length old.path
back_smaller (Ok x) old new is up = omega (arith, ap (λ (t : TreeParts). length t.path) up.ok, length_parent old.path up.at_root)
back_smaller (Err x) old new is up = absurd (false≢true is)

-- ---- along the main continuations

pub below_at_on : (path : List ℕ) (k : ℕ) (f : Forest) → below_at (path ++ k ∷ []) f ≡ below_child k (below_at path f)
below_at_on [] k f = refl
below_at_on (j ∷ path) k f = below_at_on path k (below_child j f)

main_on : (f : Forest) → 0 < count f → main_line f ≡ 0 ∷ main_line (below_child 0 f)
main_on Bare h = absurd (omega arith)
main_on (Node m nags comment below next) h = refl

main_none : (f : Forest) → count f ≡ 0 → main_line f ≡ []
main_none Bare h = refl
main_none (Node m nags comment below next) h = absurd (omega arith)

stepped : (path : List ℕ) (f : Forest) → 0 < count (below_at path f) → main_line (below_at path f) ≡ 0 ∷ main_line (below_at (path ++ 0 ∷ []) f)
stepped path f h = main_on (below_at path f) h ∙ ap (λ (x : Forest). 0 ∷ main_line x) (sym (below_at_on path 0 f))

-- on the way from `start` to the end
pub record Ending (start now : TreeParts) : Type 0 where
  pub tree : now.tree ≡ start.tree
  pub path : now.path ++ main_line (nodes_here now) ≡ start.path ++ main_line (nodes_here start)

-- a step to child 0 leaves less
pub ending_smaller : (r : Result (Unit {0}) TreeFault) (old new : TreeParts) → is_ok r ≡ true → StepsDown 0 old r new
    → length (main_line (nodes_here new)) < length (main_line (nodes_here old))
ending_smaller (Ok x) old new is down =
    omega (arith, ap (λ (t : TreeParts). length (main_line (nodes_here t))) down.ok, ap length (stepped old.path old.tree.below down.no_such))
ending_smaller (Err x) old new is down = absurd (false≢true is)

-- and stays on it
pub ending_on : (r : Result (Unit {0}) TreeFault) (start old new : TreeParts) → is_ok r ≡ true → StepsDown 0 old r new → Ending start old → Ending start new
ending_on (Ok x) start old new is down so = record {
  tree = ap (λ (t : TreeParts). t.tree) down.ok ∙ so.tree;
  path = ap (λ (t : TreeParts). t.path ++ main_line (nodes_here t)) down.ok
      ∙ append_assoc old.path (0 ∷ []) (main_line (below_at (old.path ++ 0 ∷ []) old.tree.below))
      ∙ ap (λ (p : List ℕ). old.path ++ p) (sym (stepped old.path old.tree.below down.no_such)) ∙ so.path;
}
ending_on (Err x) start old new is down so = absurd (false≢true is)

-- where there is no child 0, it ends
pub ending_there : (r : Result (Unit {0}) TreeFault) (start old new : TreeParts) → is_ok r ≡ false → StepsDown 0 old r new → Ending start old → GoesToEnd start new
ending_there (Ok x) start old new is down so = absurd (false≢true (sym is))
ending_there (Err x) start old new is down so =
    let last = main_none (nodes_here old) (omega (arith, down.no_such.1)) in
    let path : old.path ≡ start.path ++ main_line (nodes_here start) = sym (ap (λ (p : List ℕ). old.path ++ p) last ∙ append-nil old.path) ∙ so.path in
    let there = down.err ∙ (λ i. record { tree = so.tree i; path = path i }) in
    record {
      path = there;
      line = ap (λ (t : TreeParts). (line_to t).moves) there ∙ along_append start.path (main_line (nodes_here start)) start.tree.below;
    }

-- where there is a node, the path leads to it
pub has_leads : (path : List ℕ) (f : Forest) → has path f ≡ true → Leads path f
has_leads [] f there = tt
has_leads (k ∷ path) f there =
    let both = and_parts (nat_lt k (count f)) (has path (below_child k f)) there in
    (grind (arith, nat_tests, both.0), has_leads path (below_child k f) both.1)

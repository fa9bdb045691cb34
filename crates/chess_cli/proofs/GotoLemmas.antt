-- Nodes that are looked at, and the cursor, along a path that is read part by part.
use Rattle.std.proofs.Common.{◌≡◌, ℕ, zero, suc, ◌<◌, ◌≤◌, ◌&&◌, Bool, true, false, List, [], ◌∷◌, ◌++◌, Option, Some, None, refl, sym, ap, subst, ◌∙◌, arith}
use Rattle.std.specs.Prelude.{Ok, bytes_eq, codes, nat_lt, option_and_then}
use Rattle.std.proofs.lemmas.Bool.{and_parts}
use Rattle.std.proofs.lemmas.Bool.Decides.{nat_tests}
use Rattle.std.proofs.lemmas.Option.{none-some}
use Rattle.chess_tree.specs.Forest.{Forest, Bare, Node, NodeParts, below_at, below_child, child, count}
use Rattle.chess_tree.specs.GameTree.{GameTree, TreeParts, at_path, has, nodes_here}
use Rattle.chess_tree.proofs.WalkLemmas.{below_at_on}
use Rattle.chess_cli.specs.declared.board_command.refusal.Refusal.TheVariants.{Argument, NoSuch}
use Rattle.chess_cli.specs.Answers.{Does, Refuses, if_it_exists}
use Rattle.chess_cli.specs.Numbers.{number_in, numbers_in, path_in}
use Rattle.chess_cli.specs.steps.Replies.{FindsNode, parts_left, parts_of, path_effect}
use Rattle.chess_cli.proofs.PathLemmas.{ReadSoFar, read_none, read_bad, read_on, read_all, read_next, path_in-bad, path_in-parts, parts_are}

-- ---- a node, if the path so far leads to one

abbrev pub IsAt : List ℕ → Forest → Option NodeParts → Type 0
IsAt seen f None = has seen f ≡ false
IsAt seen f (Some n) = (has seen f ≡ true) × (n.below ≡ below_at seen f)

no_place : (k : ℕ) (f : Forest) → child k f ≡ None → nat_lt k (count f) ≡ false
no_place k Bare e = grind (arith, nat_tests)
no_place zero (Node m nags comment below next) e = absurd (none-some _ (sym e))
no_place (suc k) (Node m nags comment below next) e = let rest = no_place k next e in grind (arith, nat_tests)

abbrev below_of : Option NodeParts → Forest
below_of None = Bare
below_of (Some n) = n.below

some_place : (k : ℕ) (f : Forest) (n : NodeParts) → child k f ≡ Some n → (nat_lt k (count f) ≡ true) × (below_child k f ≡ n.below)
some_place k Bare n e = absurd (none-some n e)
some_place zero (Node m nags comment below next) n e = (grind (arith, nat_tests), ap below_of e)
some_place (suc k) (Node m nags comment below next) n e =
    let rest = some_place k next n e in
    let there = rest.0 in
    (grind (arith, nat_tests), rest.1)

has-more : (path : List ℕ) (k : ℕ) (f : Forest) → has (path ++ k ∷ []) f ≡ (has path f && nat_lt k (count (below_at path f)))
has-more [] k f = and_true (nat_lt k (count f))
  where
    and_true : (b : Bool) → (b && true) ≡ b
    and_true false = refl
    and_true true = refl
has-more (j ∷ path) k f = by (nat_lt j (count f)) (has-more path k (below_child j f))
  where
    by : (b : Bool) → has (path ++ k ∷ []) (below_child j f) ≡ (has path (below_child j f) && nat_lt k (count (below_at path (below_child j f))))
        → (b && has (path ++ k ∷ []) (below_child j f)) ≡ ((b && has path (below_child j f)) && nat_lt k (count (below_at path (below_child j f))))
    by false rest = refl
    by true rest = rest

-- its child, if there are both
pub at_child : (seen : List ℕ) (f : Forest) (node : Option NodeParts) (k : ℕ) → IsAt seen f node → IsAt (seen ++ k ∷ []) f (option_and_then (λ n. child k n.below) node)
at_child seen f None k is = has-more seen k f ∙ ap (λ (b : Bool). b && nat_lt k (count (below_at seen f))) is
at_child seen f (Some n) k is = by (child k n.below) refl
  where
    tested : (g : Forest) → n.below ≡ g → (b : Bool) → nat_lt k (count n.below) ≡ b → (true && nat_lt k (count g)) ≡ b
    tested g e b test = ap (λ (h : Forest). nat_lt k (count h)) (sym e) ∙ test

    all : (b : Bool) → nat_lt k (count n.below) ≡ b → has (seen ++ k ∷ []) f ≡ b
    all b test = has-more seen k f ∙ ap (λ (c : Bool). c && nat_lt k (count (below_at seen f))) is.0 ∙ tested (below_at seen f) is.1 b test

    by : (found : Option NodeParts) → child k n.below ≡ found → IsAt (seen ++ k ∷ []) f found
    by None e = all false (no_place k n.below e)
    by (Some m) e =
        let place = some_place k n.below m e in
        (all true place.0, sym place.1 ∙ ap (below_child k) is.1 ∙ sym (below_at_on seen k f))

-- ---- looked at, part by part

-- the parts so far are numbers, and lead so far
pub record Found (word : List ℕ) (rest : Option (List ℕ)) (f : Forest) (node : Option NodeParts) : Type 0 where
  pub seen : List ℕ
  pub read : ReadSoFar word rest seen
  pub is_at : IsAt seen f node

pub found_start : (word : List ℕ) (f : Forest) (root : NodeParts) → root.below ≡ f → Found word (Some word) f (Some root)
found_start word f root is = record { seen = []; read = read_none word; is_at = (refl, is) }

pub found_on : (word part : List ℕ) (rest others : Option (List ℕ)) (f : Forest) (node next : Option NodeParts) (place : ℕ) → Found word rest f node
    → parts_left rest ≡ part ∷ parts_left others → number_in part ≡ Some place → next ≡ option_and_then (λ n. child place n.below) node → Found word others f next
found_on word part rest others f node next place so cuts one is = record {
  seen = so.seen ++ place ∷ [];
  read = read_on word part rest others so.seen place so.read cuts one;
  is_at = subst (λ (n : Option NodeParts). IsAt (so.seen ++ place ∷ []) f n) (sym is) (at_child so.seen f node place so.is_at);
}

module _ (t : TreeParts) (word : List ℕ) (numbers : bytes_eq word (codes "-") ≡ false) where
  pub found_bad : (part : List ℕ) (rest others : Option (List ℕ)) (f : Forest) (at : Option NodeParts) → Found word rest f at → parts_left rest ≡ part ∷ parts_left others
      → number_in part ≡ None → path_effect t (path_in word) ≡ Refuses Argument
  found_bad part rest others f at so cuts bad = ap (path_effect t) (path_in-bad word numbers (read_bad word part rest others so.seen so.read cuts bad))

  pub found_there : (rest : Option (List ℕ)) (node : NodeParts) → rest ≡ None → Found word rest t.tree.below (Some node)
      → (path : List ℕ) × (path_in word ≡ Some path) × (has path t.tree.below ≡ true)
  found_there rest node none so = (so.seen, path_in-parts word _ so.seen numbers refl (read_all word rest so.seen none so.read), so.is_at.0)

  pub found_none : (rest : Option (List ℕ)) → rest ≡ None → Found word rest t.tree.below None → path_effect t (path_in word) ≡ Refuses NoSuch
  found_none rest none so =
      ap (path_effect t) (path_in-parts word _ so.seen numbers refl (read_all word rest so.seen none so.read)) ∙ ap (λ (b : Bool). if_it_exists b (at_path so.seen t)) so.is_at

-- ---- gone, part by part

-- the cursor has gone along the parts that are read
pub record Gone (word : List ℕ) (rest : Option (List ℕ)) (old now : TreeParts) : Type 0 where
  pub read : ReadSoFar word rest now.path
  pub tree : now.tree ≡ old.tree

pub gone_start : (word : List ℕ) (old now : TreeParts) → now ≡ at_path [] old → Gone word (Some word) old now
gone_start word old now is = record {
  read = subst (λ (path : List ℕ). ReadSoFar word (Some word) path) (sym (ap (λ (t : TreeParts). t.path) is)) (read_none word);
  tree = ap (λ (t : TreeParts). t.tree) is;
}

-- there is a child at a place that a path goes on with
has_next : (path : List ℕ) (k : ℕ) (more : List ℕ) (f : Forest) → has (path ++ k ∷ more) f ≡ true → k < count (below_at path f)
has_next [] k more f there = let test = (and_parts (nat_lt k (count f)) (has more (below_child k f)) there).0 in grind (arith, nat_tests, test)
has_next (j ∷ path) k more f there = has_next path k more (below_child j f) (and_parts (nat_lt j (count f)) (has (path ++ k ∷ more) (below_child j f)) there).1

module _ (word part : List ℕ) (rest others : Option (List ℕ)) (old now : TreeParts) (numbers : bytes_eq word (codes "-") ≡ false) (there : FindsNode old word (Ok tt))
    (so : Gone word rest old now) (cuts : parts_left rest ≡ part ∷ parts_left others) where
  all : numbers_in (parts_of word) ≡ Some there.0
  all = parts_are word there.0 numbers there.1

  -- each part is a number
  pub is_number : number_in part ≡ None → ⊥
  is_number bad = none-some there.0 (sym (sym all ∙ read_bad word part rest others now.path so.read cuts bad))

  -- there is a child at its place
  pub is_child : (place : ℕ) → number_in part ≡ Some place → count (nodes_here now) ≤ place → ⊥
  is_child place one none =
      let next = read_next word part there.0 rest others now.path place all so.read cuts one in
      let within = has_next now.path place next.0 old.tree.below (ap (λ (p : List ℕ). has p old.tree.below) (sym next.1) ∙ there.2) in
      omega (arith, within, none, ap (λ (t : GameTree). count (below_at now.path t.below)) so.tree)

  pub gone_on : (place : ℕ) (next : TreeParts) → number_in part ≡ Some place → next ≡ at_path (now.path ++ place ∷ []) now → Gone word others old next
  gone_on place next one stepped = record {
    read = subst (λ (path : List ℕ). ReadSoFar word others path) (sym (ap (λ (t : TreeParts). t.path) stepped)) (read_on word part rest others now.path place so.read cuts one);
    tree = ap (λ (t : TreeParts). t.tree) stepped ∙ so.tree;
  }

-- the whole path is gone
pub gone_all : (word : List ℕ) (rest : Option (List ℕ)) (old now : TreeParts) → bytes_eq word (codes "-") ≡ false → FindsNode old word (Ok tt) → rest ≡ None → Gone word rest old now
    → path_effect old (path_in word) ≡ Does now
gone_all word rest old now numbers there none so =
    let path : there.0 ≡ now.path = some_path (sym (parts_are word there.0 numbers there.1) ∙ read_all word rest now.path none so.read) in
    ap (path_effect old) there.1 ∙ ap (λ (b : Bool). if_it_exists b (at_path there.0 old)) there.2 ∙ ap (λ (t : TreeParts). Does t) (λ i. record { tree = (sym so.tree) i; path = path i })
  where
    some_path : {xs ys : List ℕ} → Some xs ≡ Some ys → xs ≡ ys
    some_path e = cc e

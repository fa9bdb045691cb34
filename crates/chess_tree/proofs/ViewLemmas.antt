-- Nodes looked at, one by one and side by side.
use Rattle.std.proofs.Common.{◌≡◌, ◌==◌, true, false, ℕ, zero, suc, ◌+◌, ◌<◌, ◌≤◌, refl, sym, ap, ◌∙◌, subst, List, [], ◌∷◌, ◌++◌, drop, slice_get, length, arith, add-one, Option, Some, None}
use Rattle.std.specs.Prelude.{if◌then◌else◌, unwrap_or}
use Rattle.chess_types.specs.board.MoveParts.{MoveParts}
use Rattle.chess_tree.specs.Forest.{Forest, NodeParts, child, count}
use Rattle.chess_tree.specs.Edits.{without_node}
use Rattle.chess_tree.specs.GameTree.{node_of}
use Rattle.chess_tree.specs.steps.Rooted.{Noted, Rooted, root_shown}
use Rattle.chess_tree.specs.steps.Entries.{Entry, entry_at}
use Rattle.chess_tree.specs.steps.Grove.{Grove, Empty, Tree, times, size, wide, numbers, node_number, grove_move, under, under_at, number_at, plain, Ways}
use Rattle.chess_tree.specs.steps.Linked.{Linked}
use Rattle.chess_tree.specs.steps.Laid.{IsArena, grove_from, seen, Same}
use Rattle.chess_tree.specs.steps.Viewed.{IsViewed, node_seen, side_seen}
use Rattle.chess_tree.specs.steps.Siblings.{IsOwner, Owner}
use Rattle.chess_tree.proofs.TimesLemmas.{tally_same, times_below}
use Rattle.chess_tree.proofs.LinkLemmas.{linked_one}
use Rattle.chess_tree.proofs.SeenLemmas.{grove_is, once_at_most, seen_is}
use Rattle.chess_tree.proofs.GroveLemmas.{number_on, under_on, ways_on, wide_plain}
use Rattle.chess_tree.proofs.ArenaCalls.{number_any}
use Rattle.chess_tree.proofs.SiblingLemmas.{child_in, child_move, child_none, child_number, child_past, child_plain, child_some, count_is, few_children, number_some, owner_at}

owner : (nodes : List Entry) (i : ℕ) (v : IsViewed nodes i) → Owner nodes i (under_at v.path v.game)
owner nodes i v = subst (λ (x : ℕ). Owner nodes x (under_at v.path v.game)) (sym v.is) (owner_at nodes v.free v.game v.freed Empty v.path v.laid v.ways)

pub owner_seen : (nodes : List Entry) (i : ℕ) → IsViewed nodes i → IsOwner nodes i
owner_seen nodes i v = (under_at v.path v.game, owner nodes i v)

pub viewed_range : (nodes : List Entry) (i : ℕ) → IsViewed nodes i → i < length nodes
viewed_range nodes i v = (owner nodes i v).there

pub viewed_few : (nodes : List Entry) (i : ℕ) → IsViewed nodes i → length nodes ≤ 1000001
viewed_few nodes i v = v.few

pub viewed_children : (nodes : List Entry) (i : ℕ) → IsViewed nodes i → length (entry_at nodes i).children ≤ 1000001
viewed_children nodes i v = omega (arith, few_children nodes i (under_at v.path v.game) (owner nodes i v), v.few)

below_is : (nodes : List Entry) (i : ℕ) (g : Grove) → Owner nodes i g → grove_from (length nodes) (entry_at nodes) (entry_at nodes i).children ≡ g
below_is nodes i g o = ap (λ (x : List ℕ). grove_from (length nodes) (entry_at nodes) x) o.own ∙ grove_is Same (entry_at nodes) i 0 (length nodes) g (omega (arith, o.few)) o.linked

if_none : {T : Type 0} (t : ℕ) (x y : T) → t ≡ 0 → (if t == 0 then x else y) ≡ x
if_none t x y h = let test : (t == 0) ≡ true = grind arith in rw test

if_some : {T : Type 0} (t : ℕ) (x y : T) → 0 < t → (if t == 0 then x else y) ≡ y
if_some t x y h = let test : (t == 0) ≡ false = grind arith in rw test

-- ---- one node

-- a node with that number, above that grove
abbrev node_with : List Entry → (ℕ → Noted) → ℕ → Grove → NodeParts
node_with nodes noted i g = record {
  move = if i == 0 then None else Some (entry_at nodes i).played;
  nags = if i == 0 then [] else (noted i).nags;
  comment = (noted i).comment;
  below = plain noted g;
}

with_below_is : (nodes : List Entry) (noted : ℕ → Noted) (i : ℕ) (g : Grove) → Owner nodes i g → node_seen nodes noted i ≡ node_with nodes noted i g
with_below_is nodes noted i g o = ap (node_with nodes noted i) (below_is nodes i g o)

-- a child is the node with its number
child_is : (nodes : List Entry) (noted : ℕ → Noted) (at k n : ℕ) (g : Grove) → Owner nodes at g → Some n ≡ slice_get (entry_at nodes at).children k
    → Some (node_with nodes noted n (under k g)) ≡ child k (plain noted g)
child_is nodes noted at k n g o e =
    let is = child_number nodes at k n g o e in
    let some = child_some nodes at k n g o e in
    let move = if_some n None (Some (entry_at nodes n).played) some ∙ ap (λ (m : MoveParts). Some m) (child_move nodes at k n g o e) in
    let nags = if_some n [] (noted n).nags some ∙ ap (λ (x : ℕ). (noted x).nags) is in
    let comment = ap (λ (x : ℕ). (noted x).comment) is in
    (λ j. Some (record { move = move j; nags = nags j; comment = comment j; below = plain noted (under k g) })) ∙ sym (child_plain noted k g (child_in nodes at k n g o e))

below_seen : (nodes : List Entry) (noted : ℕ → Noted) (i : ℕ) (n : NodeParts) (v : IsViewed nodes i) → node_seen nodes noted i ≡ n → n.below ≡ plain noted (under_at v.path v.game)
below_seen nodes noted i n v e = ap (λ (x : NodeParts). x.below) (sym e) ∙ ap (plain noted) (below_is nodes i (under_at v.path v.game) (owner nodes i v))

pub children_seen : (nodes : List Entry) (noted : ℕ → Noted) (i : ℕ) (n : NodeParts) → IsViewed nodes i → node_seen nodes noted i ≡ n → length (entry_at nodes i).children ≡ count n.below
children_seen nodes noted i n v e =
    count_is nodes i (under_at v.path v.game) (owner nodes i v) ∙ sym (wide_plain noted (under_at v.path v.game)) ∙ ap count (sym (below_seen nodes noted i n v e))

pub no_child : (nodes : List Entry) (noted : ℕ → Noted) (i place : ℕ) (n : NodeParts) → IsViewed nodes i → node_seen nodes noted i ≡ n → None ≡ slice_get (entry_at nodes i).children place → None ≡ child place n.below
no_child nodes noted i place n v e at =
    let b = under_at v.path v.game in
    let o = owner nodes i v in
    sym (child_none noted place b (child_past nodes i place b o at)) ∙ ap (child place) (sym (below_seen nodes noted i n v e))

-- the child at a place is one of the game too
child_there : (nodes : List Entry) (i place found : ℕ) (v : IsViewed nodes i) → Some found ≡ slice_get (entry_at nodes i).children place → IsViewed nodes found
child_there nodes i place found v e =
    let b = under_at v.path v.game in
    let o = owner nodes i v in
    let short : place < wide b = child_in nodes i place found b o e in
    record {
      free = v.free;
      game = v.game;
      freed = v.freed;
      path = v.path ++ place ∷ [];
      laid = v.laid;
      ways = ways_on v.path place v.game v.ways short;
      is = child_number nodes i place found b o e ∙ sym (number_any (number_at v.path 0 v.game) place b short) ∙ sym (number_on v.path place 0 v.game);
      few = v.few;
    }

child_owner : (nodes : List Entry) (i place found : ℕ) (v : IsViewed nodes i) → Some found ≡ slice_get (entry_at nodes i).children place → Owner nodes found (under place (under_at v.path v.game))
unfolding child_there
child_owner nodes i place found v e =
    subst (Owner nodes found) (under_on v.path place v.game) (owner nodes found (child_there nodes i place found v e))

pub child_viewed : (nodes : List Entry) (noted : ℕ → Noted) (i place found : ℕ) (n : NodeParts) → IsViewed nodes i → node_seen nodes noted i ≡ n → Some found ≡ slice_get (entry_at nodes i).children place
    → IsViewed nodes found × (Some (node_seen nodes noted found) ≡ child place n.below)
child_viewed nodes noted i place found n v e at =
    let b = under_at v.path v.game in
    let o = owner nodes i v in (
      child_there nodes i place found v at,
      ap (λ (x : NodeParts). Some x) (with_below_is nodes noted found (under place b) (child_owner nodes i place found v at)) ∙ child_is nodes noted i place found b o at
          ∙ ap (child place) (sym (below_seen nodes noted i n v e)),
    )

pub move_root : (nodes : List Entry) (noted : ℕ → Noted) (i : ℕ) (n : NodeParts) → node_seen nodes noted i ≡ n → i ≡ 0 → None ≡ n.move
move_root nodes noted i n e h = sym (if_none i None (Some (entry_at nodes i).played) h) ∙ ap (λ (x : NodeParts). x.move) e

pub move_seen : (nodes : List Entry) (noted : ℕ → Noted) (i : ℕ) (m : MoveParts) (n : NodeParts) → node_seen nodes noted i ≡ n → 0 < i → m ≡ (entry_at nodes i).played → Some m ≡ n.move
move_seen nodes noted i m n e h r = ap (λ (x : MoveParts). Some x) r ∙ sym (if_some i None (Some (entry_at nodes i).played) h) ∙ ap (λ (x : NodeParts). x.move) e

pub nags_root : (nodes : List Entry) (noted : ℕ → Noted) (i : ℕ) (n : NodeParts) → node_seen nodes noted i ≡ n → i ≡ 0 → [] ≡ n.nags
nags_root nodes noted i n e h = sym (if_none i [] (noted i).nags h) ∙ ap (λ (x : NodeParts). x.nags) e

pub nags_seen : (nodes : List Entry) (noted : ℕ → Noted) (i : ℕ) (nags : List ℕ) (n : NodeParts) → node_seen nodes noted i ≡ n → 0 < i → nags ≡ (noted i).nags → nags ≡ n.nags
nags_seen nodes noted i nags n e h r = r ∙ sym (if_some i [] (noted i).nags h) ∙ ap (λ (x : NodeParts). x.nags) e

-- ---- the root, and the node at the cursor

deep_is : (nodes : List Entry) (noted : ℕ → Noted) (path : List ℕ) (i : ℕ) (g : Grove) → Ways path g → (entry_at nodes i).children ≡ numbers g → Linked Same (entry_at nodes) i 0 g → times 0 g ≡ 0
    → node_of path (node_with nodes noted i g) ≡ node_with nodes noted (number_at path i g) (under_at path g)
deep_is nodes noted [] i g ways own links out = refl
deep_is nodes noted (k ∷ path) i g ways own links out =
    let one = linked_one Same (entry_at nodes) i 0 i k g ways.0 links in
    let n = node_number i k g in
    let same : n ≡ node_number 0 k g = number_any i k g ways.0 in
    let some : 0 < n = omega (arith, same, number_some k g out ways.0) in
    let move = if_some n None (Some (entry_at nodes n).played) some ∙ ap (λ (m : MoveParts). Some m) one.0.owned.move_is in
    let nags = if_some n [] (noted n).nags some ∙ ap (λ (x : ℕ). (noted x).nags) same in
    let comment = ap (λ (x : ℕ). (noted x).comment) same in
    let there : child k (plain noted g) ≡ Some (node_with nodes noted n (under k g)) =
    child_plain noted k g ways.0 ∙ sym (λ j. Some (record { move = move j; nags = nags j; comment = comment j; below = plain noted (under k g) })) in
    ap (λ (o : Option NodeParts). node_of path (unwrap_or o (node_with nodes noted i g))) there
    ∙ deep_is nodes noted path n (under k g) ways.1 one.0.owned.children_is one.1 (omega (arith, out, times_below 0 k g))

module _ (nodes : List Entry) (noted : ℕ → Noted) (free here : ℕ) (trail : List ℕ) (room : ℕ) (z : Rooted) (a : IsArena nodes noted free here trail room) (v : seen nodes noted here ≡ z) where
  pub root_viewed : IsViewed nodes 0
  root_viewed = record { free = free; game = a.game; freed = a.freed; path = []; laid = a.laid; ways = tt; is = refl; few = a.few }

  pub here_viewed : IsViewed nodes here
  here_viewed = record { free = free; game = a.game; freed = a.freed; path = a.path; laid = a.laid; ways = a.ways; is = a.here_is; few = a.few }

  root_with : node_with nodes noted 0 a.game ≡ root_shown z.root
  root_with = ap (λ (x : Rooted). root_shown x.root) (sym (seen_is nodes noted free here trail room a) ∙ v)

  pub root_seen : node_seen nodes noted 0 ≡ root_shown z.root
  unfolding root_viewed
  root_seen = with_below_is nodes noted 0 a.game (owner nodes 0 root_viewed) ∙ root_with

  pub here_seen : node_seen nodes noted here ≡ node_of z.path (root_shown z.root)
  unfolding here_viewed
  here_seen =
      with_below_is nodes noted here (under_at a.path a.game) (owner nodes here here_viewed)
      ∙ ap (λ (x : ℕ). node_with nodes noted x (under_at a.path a.game)) a.here_is
      ∙ sym (deep_is nodes noted a.path 0 a.game a.ways a.laid.root a.laid.linked (omega (arith, once_at_most nodes free a.game a.freed Empty a.laid 0, tally_same 0)))
      ∙ (λ j. node_of (sym (seen_is nodes noted free here trail room a) j).path (root_with j))
      ∙ ap (λ (x : Rooted). node_of x.path (root_shown z.root)) v

-- ---- side by side

-- those from a place on
abbrev rest_of : ℕ → Grove → Grove
rest_of zero g = g
rest_of (suc k) Empty = Empty
rest_of (suc k) (Tree i m below next) = rest_of k next

rest_numbers : (k : ℕ) (g : Grove) → drop k (numbers g) ≡ numbers (rest_of k g)
rest_numbers zero g = refl
rest_numbers (suc k) Empty = refl
rest_numbers (suc k) (Tree i m below next) = rest_numbers k next

rest_size : (k : ℕ) (g : Grove) → size (rest_of k g) ≤ size g
rest_size zero g = omega arith
rest_size (suc k) Empty = omega arith
rest_size (suc k) (Tree i m below next) = omega (arith, rest_size k next)

rest_linked : (find : ℕ → Entry) (p a k : ℕ) (g : Grove) → Linked Same find p a g → Linked Same find p (a + k) (rest_of k g)
rest_linked find p a zero g w = subst (λ (x : ℕ). Linked Same find p x g) (omega arith) w
rest_linked find p a (suc k) Empty w = tt
rest_linked find p a (suc k) (Tree i m below next) w = subst (λ (x : ℕ). Linked Same find p x (rest_of k next)) (omega arith) (rest_linked find p (suc a) k next w.2)

rest_none : (k : ℕ) (g : Grove) → wide g ≤ k → rest_of k g ≡ Empty
rest_none zero Empty h = refl
rest_none (suc k) Empty h = refl
rest_none zero (Tree i m below next) h = absurd (omega (arith, h))
rest_none (suc k) (Tree i m below next) h = rest_none k next (omega (arith, h))

rest_split : (k : ℕ) (g : Grove) → k < wide g → rest_of k g ≡ Tree (node_number 0 k g) (grove_move k g) (under k g) (rest_of (suc k) g)
rest_split k Empty h = absurd (omega (arith, h))
rest_split zero (Tree i m below next) h = refl
rest_split (suc k) (Tree i m below next) h = rest_split k next (omega (arith, h))

rest_separated : (k : ℕ) (g : Grove) → k < wide g → rest_of k g ≡ Tree (node_number 0 k g) (grove_move k g) (under k g) (rest_of (k + 1) g)
rest_separated k g h = rest_split k g h ∙ ap (λ (x : ℕ). Tree (node_number 0 k g) (grove_move k g) (under k g) (rest_of x g)) (sym (add-one k))

side_is : (nodes : List Entry) (at k : ℕ) (g : Grove) → Owner nodes at g → grove_from (length nodes) (entry_at nodes) (drop k (entry_at nodes at).children) ≡ rest_of k g
side_is nodes at k g o =
    ap (λ (x : List ℕ). grove_from (length nodes) (entry_at nodes) x) (ap (drop k) o.own ∙ rest_numbers k g)
    ∙ grove_is Same (entry_at nodes) at (0 + k) (length nodes) (rest_of k g) (omega (arith, o.few, rest_size k g)) (rest_linked (entry_at nodes) at 0 k g o.linked)

module _ (nodes : List Entry) (noted : ℕ → Noted) (i place : ℕ) (f : Forest) (v : IsViewed nodes i) (e : side_seen nodes noted i place ≡ f) where
  seen_side : f ≡ plain noted (rest_of place (under_at v.path v.game))
  seen_side = sym e ∙ ap (plain noted) (side_is nodes i place (under_at v.path v.game) (owner nodes i v))

  pub side_end : None ≡ slice_get (entry_at nodes i).children place → (None ≡ child 0 f) × (f ≡ without_node 0 f)
  side_end at =
      let none : f ≡ plain noted Empty =
      seen_side ∙ ap (plain noted) (rest_none place (under_at v.path v.game) (child_past nodes i place (under_at v.path v.game) (owner nodes i v) at)) in
      (ap (child 0) (sym none), none ∙ ap (without_node 0) (sym none))

  pub side_next : (found : ℕ) → Some found ≡ slice_get (entry_at nodes i).children place
      → IsViewed nodes found × (Some (node_seen nodes noted found) ≡ child 0 f) × (side_seen nodes noted i (place + 1) ≡ without_node 0 f) × (place < 1000001)
  side_next found at =
      let b = under_at v.path v.game in
      let o = owner nodes i v in
      let short = child_in nodes i place found b o at in
      let all : f ≡ plain noted (Tree (node_number 0 place b) (grove_move place b) (under place b) (rest_of (place + 1) b)) = seen_side ∙ ap (plain noted) (rest_separated place b short) in (
        child_there nodes i place found v at,
        ap (λ (x : NodeParts). Some x) (with_below_is nodes noted found (under place b) (child_owner nodes i place found v at))
            ∙ child_is nodes noted i place found b o at ∙ child_plain noted place b short ∙ ap (child 0) (sym all),
        ap (plain noted) (side_is nodes i (place + 1) b o) ∙ ap (without_node 0) (sym all),
        omega (arith, short, count_is nodes i b o, few_children nodes i b o, v.few),
      )

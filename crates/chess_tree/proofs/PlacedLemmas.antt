-- Nodes whose places are written one after the other.
use Rattle.std.proofs.Common.{◌≡◌, ◌≢◌, ℕ, zero, suc, ◌+◌, ◌<◌, ◌≤◌, refl, sym, ap, ◌∙◌, subst, List, [], ◌∷◌, ◌++◌, ◌-◌, length, get_or, slice_get, set, drop, remove, take, None, Some, arith, get_or-set_same, get_or-set_other, length-drop, length-set, length-take-le, get_or-drop, take_all}
use Rattle.std.proofs.lemmas.List.{take_more}
use Rattle.std.proofs.lemmas.Option.{none-some, slice_get-get_or}
use Rattle.chess_tree.specs.steps.Siblings.{AreThere}
use Rattle.chess_tree.specs.steps.Entries.{Entry, entry_at, moved_first, no_entry, with_children, with_place}
use Rattle.chess_tree.specs.steps.Grove.{Grove, Empty, Tree, tally, times, numbers}
use Rattle.chess_tree.specs.steps.Linked.{IsLinked, Linked, Unplaced}
use Rattle.chess_tree.specs.steps.Laid.{Same}
use Rattle.chess_tree.specs.steps.Writes.{detached, lifted, placed}
use Rattle.chess_tree.proofs.TimesLemmas.{among, among_numbers, tally_same}
use Rattle.chess_tree.proofs.LinkLemmas.{linked_frame, unplaced_frame}

pub look_set : (nodes : List Entry) (at : ℕ) (n : Entry) → at < length nodes → entry_at (set nodes at n) at ≡ n
look_set nodes at n h = get_or-set_same nodes at n no_entry h

pub look_set_other : (nodes : List Entry) (at j : ℕ) (n : Entry) → j ≢ at → entry_at (set nodes at n) j ≡ entry_at nodes j
look_set_other nodes at j n h = get_or-set_other nodes at j n no_entry h

pub apart : (j i : ℕ) → tally j i ≡ 0 → j ≢ i
apart j i w q = let one : tally j i ≡ 1 = subst (λ (y : ℕ). tally j y ≡ 1) q (tally_same j) in omega (arith, w, one)

pub placed_length : (k : ℕ) (is : List ℕ) (nodes : List Entry) → length (placed k is nodes) ≡ length nodes
placed_length k [] nodes = refl
placed_length k (i ∷ is) nodes = placed_length (suc k) is (with_place i k nodes) ∙ length-set nodes i (record (entry_at nodes i) { place = k })

-- nodes that aren't among them stay
pub placed_other : (k : ℕ) (is : List ℕ) (nodes : List Entry) (j : ℕ) → among j is ≡ 0 → entry_at (placed k is nodes) j ≡ entry_at nodes j
placed_other k [] nodes j none = refl
placed_other k (i ∷ is) nodes j none =
    placed_other (suc k) is (with_place i k nodes) j (omega (arith, none)) ∙ look_set_other nodes i j (record (entry_at nodes i) { place = k }) (apart j i (omega (arith, none)))

place_children : (i k : ℕ) (nodes : List Entry) (j : ℕ) → (entry_at (with_place i k nodes) j).children ≡ (entry_at nodes j).children
place_children i k [] j = refl
place_children zero k (n ∷ nodes) zero = refl
place_children zero k (n ∷ nodes) (suc j) = refl
place_children (suc i) k (n ∷ nodes) zero = refl
place_children (suc i) k (n ∷ nodes) (suc j) = place_children i k nodes j

-- and so do the children of each
pub placed_children : (k : ℕ) (is : List ℕ) (nodes : List Entry) (j : ℕ) → (entry_at (placed k is nodes) j).children ≡ (entry_at nodes j).children
placed_children k [] nodes j = refl
placed_children k (i ∷ is) nodes j = placed_children (suc k) is (with_place i k nodes) j ∙ place_children i k nodes j

-- one more
pub placed_on : (k : ℕ) (is : List ℕ) (i : ℕ) (nodes : List Entry) → placed k (is ++ i ∷ []) nodes ≡ with_place i (k + length is) (placed k is nodes)
placed_on k [] i nodes = ap (λ (x : ℕ). with_place i x nodes) (omega arith)
placed_on k (j ∷ is) i nodes =
    placed_on (suc k) is i (with_place j k nodes) ∙ ap (λ (x : ℕ). with_place i x (placed (suc k) is (with_place j k nodes))) (omega arith)

-- PLACED: what was linked but for the places is linked
pub placed_linked : (nodes : List Entry) (p k : ℕ) (g : Grove) → ((j : ℕ) → times j g ≤ 1) → ((j : ℕ) → 0 < times j g → j < length nodes)
    → Unplaced Same (entry_at nodes) p g → Linked Same (entry_at (placed k (numbers g) nodes)) p k g
placed_linked nodes p k Empty once range w = tt
placed_linked nodes p k (Tree i m below next) once range w =
    let first = with_place i k nodes in
    let new = placed (suc k) (numbers next) first in
    let l : length first ≡ length nodes = length-set nodes i (record (entry_at nodes i) { place = k }) in
    let here : entry_at new i ≡ record (entry_at nodes i) { place = k } =
    placed_other (suc k) (numbers next) first i (omega (arith, among_numbers i next, once i, tally_same i))
    ∙ look_set nodes i (record (entry_at nodes i) { place = k }) (range i (omega (arith, tally_same i))) in
    let off : (j : ℕ) → tally j i ≡ 0 → entry_at first j ≡ entry_at nodes j = λ j h. look_set_other nodes i j (record (entry_at nodes i) { place = k }) (apart j i h) in (
      subst (λ (s : Entry). IsLinked Same s p k m (numbers below)) (sym here)
          (record { owned = record { move_is = w.0.move_is; parent_is = w.0.parent_is; children_is = w.0.children_is }; place_is = refl }),
      linked_frame Same (entry_at nodes) (entry_at new) i 0 below
          (λ j h. placed_other (suc k) (numbers next) first j (omega (arith, among_numbers j next, once j, h)) ∙ off j (omega (arith, once j, h))) w.1,
      placed_linked first p (suc k) next (λ j. omega (arith, once j)) (λ j h. omega (arith, l, range j (omega (arith, h))))
          (unplaced_frame Same (entry_at nodes) (entry_at first) p next (λ j h. off j (omega (arith, once j, h))) w.2),
    )

-- ---- as many nodes as before

pub detached_length : (at k : ℕ) (nodes : List Entry) → length (detached at k nodes) ≡ length nodes
detached_length at k nodes =
    let cs = remove (entry_at nodes at).children k in
    placed_length k (drop k cs) (with_children at cs nodes) ∙ length-set nodes at (record (entry_at nodes at) { children = cs })

pub lifted_length : (at k : ℕ) (nodes : List Entry) → length (lifted at k nodes) ≡ length nodes
lifted_length at k nodes =
    let cs = moved_first k (entry_at nodes at).children in
    placed_length 0 (take (k + 1) cs) (with_children at cs nodes) ∙ length-set nodes at (record (entry_at nodes at) { children = cs })

-- ---- the children of a node from one place on

-- they have these places up to another
some_number : (a b : ℕ) → Some a ≡ Some b → a ≡ b
some_number a b e = cc

pub record Renumbering (old nodes : List Entry) (at from place : ℕ) : Type 0 where
  pub is : nodes ≡ placed from (take (place - from) (drop from (entry_at old at).children)) old
  pub order : from ≤ place

sub-self : (n : ℕ) → n - n ≡ 0
sub-self n = omega arith

pub renumbering_start : (old : List Entry) (at from : ℕ) → Renumbering old old at from from
renumbering_start old at from =
    record { is = ap (λ (x : ℕ). placed from (take x (drop from (entry_at old at).children)) old) (sym (sub-self from)); order = omega arith }

module _ (old nodes : List Entry) (at from place : ℕ) (r : Renumbering old nodes at from place) where
  abbrev cs : List ℕ
  cs = (entry_at old at).children

  abbrev done : List ℕ
  done = take (place - from) (drop from cs)

  pub renumbering_children : (entry_at nodes at).children ≡ (entry_at old at).children
  renumbering_children = ap (λ (ns : List Entry). (entry_at ns at).children) r.is ∙ placed_children from done old at

  pub renumbering_length : length nodes ≡ length old
  renumbering_length = ap length r.is ∙ placed_length from done old

  pub renumbering_some : place < length (entry_at old at).children → None ≡ slice_get (entry_at nodes at).children place → ⊥
  renumbering_some h e = none-some (get_or (entry_at old at).children place 0) (e ∙ ap (λ (x : List ℕ). slice_get x place) renumbering_children ∙ slice_get-get_or (entry_at old at).children place 0 h)

  pub renumbering_child : (c : ℕ) → place < length (entry_at old at).children → Some c ≡ slice_get (entry_at nodes at).children place → c ≡ get_or (entry_at old at).children place 0
  renumbering_child c h e = some_number c (get_or (entry_at old at).children place 0) (e ∙ ap (λ (x : List ℕ). slice_get x place) renumbering_children ∙ slice_get-get_or (entry_at old at).children place 0 h)

  pub renumbering_on : (c : ℕ) → place < length (entry_at old at).children → Some c ≡ slice_get (entry_at nodes at).children place → Renumbering old (with_place c place nodes) at from (place + 1)
  renumbering_on c h e =
      let here : get_or (drop from cs) (place - from) 0 ≡ c =
      get_or-drop from cs (place - from) 0 ∙ ap (λ (x : ℕ). get_or cs x 0) (omega (arith, r.order)) ∙ sym (renumbering_child c h e) in
      let long : length (drop from cs) ≡ length cs - from = length-drop from cs in
      let more : take (place + 1 - from) (drop from cs) ≡ done ++ c ∷ [] =
      ap (λ (x : ℕ). take x (drop from cs)) (omega (arith, r.order))
      ∙ take_more (drop from cs) (place - from) 0 (omega (arith, long, h, r.order)) ∙ ap (λ (x : ℕ). done ++ x ∷ []) here in
      let count : from + length done ≡ place = omega (arith, length-take-le (place - from) (drop from cs) (omega (arith, long, h, r.order)), r.order) in
      record {
        is = sym (ap (λ (x : List ℕ). placed from x old) more ∙ placed_on from done c old ∙ (λ j. with_place c (count j) (sym r.is j)));
        order = omega (arith, r.order);
      }

-- ---- a list without one of its items, and with it first

length_remove : (cs : List ℕ) (k : ℕ) → k < length cs → suc (length (remove cs k)) ≡ length cs
length_remove [] k h = absurd (omega arith)
length_remove (c ∷ cs) zero h = refl
length_remove (c ∷ cs) (suc k) h = ap suc (length_remove cs k (omega arith))

there_remove : (cs : List ℕ) (k n : ℕ) → ((j : ℕ) → j < length cs → get_or cs j 0 < n) → (j : ℕ) → j < length (remove cs k) → get_or (remove cs k) j 0 < n
there_remove [] zero n all j h = absurd (omega arith)
there_remove [] (suc k) n all j h = absurd (omega arith)
there_remove (c ∷ cs) zero n all j h = all (suc j) (omega arith)
there_remove (c ∷ cs) (suc k) n all zero h = all 0 (omega arith)
there_remove (c ∷ cs) (suc k) n all (suc j) h = there_remove cs k n (λ i w. all (suc i) (omega arith)) j (omega arith)

-- the nodes once one of them has other children
module _ (old new : List Entry) (at : ℕ) (children : List ℕ) (h : at < length old) (e : new ≡ with_children at children old) where
  pub children_length : length new ≡ length old
  children_length = ap length e ∙ length-set old at (record (entry_at old at) { children = children })

  pub children_at : (entry_at new at).children ≡ children
  children_at = ap (λ (ns : List Entry). (entry_at ns at).children) e ∙ ap (λ (s : Entry). s.children) (look_set old at (record (entry_at old at) { children = children }) h)

  pub children_there : ((j : ℕ) → j < length children → get_or children j 0 < length old) → AreThere new at
  children_there all k w =
      let one = all k (omega (arith, w, ap length children_at)) in
      omega (arith, one, ap (λ (x : List ℕ). get_or x k 0) children_at, children_length)

module _ (old new : List Entry) (at k : ℕ) (h : at < length old) (short : k < length (entry_at old at).children) (there : AreThere old at) where
  pub removed_there : new ≡ with_children at (remove (entry_at old at).children k) old → AreThere new at
  removed_there e = children_there old new at (remove (entry_at old at).children k) h e (there_remove (entry_at old at).children k (length old) there)

  pub removed_count : new ≡ with_children at (remove (entry_at old at).children k) old → suc (length (entry_at new at).children) ≡ length (entry_at old at).children
  removed_count e = ap (λ (x : List ℕ). suc (length x)) (children_at old new at (remove (entry_at old at).children k) h e) ∙ length_remove (entry_at old at).children k short

  pub detached_now : (last : List Entry) (count : ℕ) → new ≡ with_children at (remove (entry_at old at).children k) old → count ≡ length (entry_at new at).children
      → last ≡ placed k (take (count - k) (drop k (entry_at new at).children)) new → last ≡ detached at k old
  detached_now last count e n is =
      let all : take (count - k) (drop k (entry_at new at).children) ≡ drop k (entry_at new at).children =
      take_all (count - k) (drop k (entry_at new at).children) (omega (arith, n, length-drop k (entry_at new at).children)) in
      is ∙ ap (λ (x : List ℕ). placed k x new) all ∙ (λ j. placed k (drop k (children_at old new at (remove (entry_at old at).children k) h e j)) (e j))

  first_there : (j : ℕ) → j < length (moved_first k (entry_at old at).children) → get_or (moved_first k (entry_at old at).children) j 0 < length old
  first_there zero w = there k short
  first_there (suc j) w = there_remove (entry_at old at).children k (length old) there j (omega arith)

  pub moved_there : new ≡ with_children at (moved_first k (entry_at old at).children) old → AreThere new at
  moved_there e = children_there old new at (moved_first k (entry_at old at).children) h e first_there

  pub moved_count : new ≡ with_children at (moved_first k (entry_at old at).children) old → length (entry_at new at).children ≡ length (entry_at old at).children
  moved_count e = ap length (children_at old new at (moved_first k (entry_at old at).children) h e) ∙ length_remove (entry_at old at).children k short

  pub lifted_now : (last : List Entry) → new ≡ with_children at (moved_first k (entry_at old at).children) old
      → last ≡ placed 0 (take (k + 1) (entry_at new at).children) new → last ≡ lifted at k old
  lifted_now last e is = is ∙ (λ j. placed 0 (take (k + 1) (children_at old new at (moved_first k (entry_at old at).children) h e j)) (e j))

-- How the nodes lie after an edit at a path, and after one was taken into hand or let go.
use Rattle.std.proofs.Common.{◌≡◌, ◌≢◌, ℕ, zero, suc, ◌+◌, ◌<◌, ◌≤◌, refl, sym, ap, ◌∙◌, subst, List, [], ◌∷◌, ◌++◌, length, drop, take, remove, inl, inr, arith, add-one, length-set}
use Rattle.std.proofs.lemmas.Bool.{cases_lt}
use Rattle.chess_types.specs.board.MoveParts.{MoveParts}
use Rattle.chess_tree.specs.steps.Entries.{Entry, entry_at, moved_first, with_children, with_parent}
use Rattle.chess_tree.specs.steps.Grove.{Grove, Empty, Tree, tally, times, size, wide, numbers, join, node_number, grove_move, under, those_before, those_after, under_at, change_at, number_at, Ways}
use Rattle.chess_tree.specs.steps.Linked.{Any, Chained, IsLinked, Linked, Unplaced}
use Rattle.chess_tree.specs.steps.Laid.{Laid, Same, uses}
use Rattle.chess_tree.specs.steps.Writes.{detached, lifted, placed}
use Rattle.chess_tree.proofs.TimesLemmas.{among_numbers, at_le, numbers_join, number_get, parted, size_change, size_join, tally_other, tally_same, times_at, times_change, times_join, times_under, wide_before}
use Rattle.chess_tree.proofs.LinkLemmas.{StaysBut, linked_frame, linked_join, linked_one, linked_parts, relinked, unplaced, unplaced_frame}
use Rattle.chess_tree.proofs.PlacedLemmas.{apart, look_set, look_set_other, placed_length, placed_linked, placed_other}
use Rattle.chess_tree.proofs.SeenLemmas.{once_at_most}

-- the nodes side by side but for one
abbrev pub others : ℕ → Grove → Grove
others k g = join (those_before k g) (those_after k g)

-- that one before the others
abbrev pub fronted : ℕ → Grove → Grove
fronted k g = Tree (node_number 0 k g) (grove_move k g) (under k g) (others k g)

-- a number that is used elsewhere is another one
pub elsewhere : (j i : ℕ) (g : Grove) → tally j i + times j g ≤ 1 → 0 < times j g → j ≢ i
elsewhere j i g w h = apart j i (omega (arith, w, h))

-- a number in use is one of the list's
pub in_range : (nodes : List Entry) (free : ℕ) (game freed spare : Grove) → Laid nodes free game freed spare → (j : ℕ) → 0 < uses j game freed spare → j < length nodes
in_range nodes free game freed spare k j h = elim (cases_lt j (length nodes)) [ inl w ↦ w | inr w ↦ (let no : uses j game freed spare ≡ 0 = k.none j w in absurd (omega (arith, no, h))) ]

-- at a path: the node's children, and what they say
pub linked_at : (find : ℕ → Entry) (path : List ℕ) (i : ℕ) (g : Grove) → Ways path g → (find i).children ≡ numbers g → Linked Same find i 0 g
    → ((find (number_at path i g)).children ≡ numbers (under_at path g)) × Linked Same find (number_at path i g) 0 (under_at path g)
linked_at find [] i g ways o w = (o, w)
linked_at find (k ∷ path) i g ways o w =
    let one = linked_one Same find i 0 i k g ways.0 w in
    linked_at find path (node_number i k g) (under k g) ways.1 one.0.owned.children_is one.1

any_linked : (find : ℕ → Entry) (p q k l : ℕ) (g : Grove) → Linked Same find p k g → Linked Any find q l g
any_linked find p q k l Empty w = tt
any_linked find p q k l (Tree i m below next) w = (
  record { owned = record { move_is = w.0.owned.move_is; parent_is = tt; children_is = w.0.owned.children_is }; place_is = tt },
  any_linked find i i 0 0 below w.1,
  any_linked find p q (suc k) (suc l) next w.2,
)

-- what is asked of freed nodes' parents and places holds of any
pub elsewhere_linked : (find : ℕ → Entry) (p q k l : ℕ) (g : Grove) → Linked Any find p k g → Linked Any find q l g
elsewhere_linked find p q k l Empty w = tt
elsewhere_linked find p q k l (Tree i m below next) w = (
  record { owned = record { move_is = w.0.owned.move_is; parent_is = tt; children_is = w.0.owned.children_is }; place_is = tt },
  w.1,
  elsewhere_linked find p q (suc k) (suc l) next w.2,
)

pub chained_frame : (entry_at new : ℕ → Entry) (g : Grove) → ((j : ℕ) → 0 < times j g → new j ≡ entry_at j) → Chained entry_at g → Chained new g
chained_frame entry_at new Empty same h = tt
chained_frame entry_at new (Tree i m below next) same h =
    let here = same i (omega (arith, tally_same i)) in (
      ap (λ (s : Entry). s.parent) here ∙ h.0,
      ap (λ (s : Entry). s.children) here ∙ h.1,
      linked_frame Any entry_at new i 0 below (λ j w. same j (omega (arith, w))) h.2,
      chained_frame entry_at new next (λ j w. same j (omega (arith, w))) h.3,
    )

-- AN EDIT: the nodes below the one at a path are others, with those in hand
pub edit_laid : (nodes new : List Entry) (free : ℕ) (game freed spare rest : Grove) (c : Grove → Grove) (path : List ℕ)
    → length new ≡ length nodes → Laid nodes free game freed spare → Ways path game
    → ((j : ℕ) → j ≢ number_at path 0 game → times j (under_at path game) ≡ 0 → times j spare ≡ 0 → entry_at new j ≡ entry_at nodes j)
    → StaysBut (entry_at nodes (number_at path 0 game)) (entry_at new (number_at path 0 game))
    → (entry_at new (number_at path 0 game)).children ≡ numbers (c (under_at path game))
    → Linked Same (entry_at new) (number_at path 0 game) 0 (c (under_at path game))
    → ((j : ℕ) → times j (c (under_at path game)) + times j rest ≡ times j (under_at path game) + times j spare)
    → size (c (under_at path game)) + size rest ≡ size (under_at path game) + size spare
    → Laid new free (change_at c path game) freed rest
edit_laid nodes new free game freed spare rest c path same_length k ways same stays owns fresh number sizes =
    let most = once_at_most nodes free game freed spare k in
    let on = relinked Same (entry_at nodes) (entry_at new) c path 0 game ways (λ j. omega (arith, most j))
    (λ j w ne no. same j ne no (omega (arith, most j, w))) stays owns fresh k.root k.linked in
    record {
      root = on.1;
      linked = on.2;
      loose =
          chained_frame (entry_at nodes) (entry_at new) freed
          (λ j w. same j
          (λ q. let two : 0 < times (number_at path 0 game) freed = subst (λ (y : ℕ). 0 < times y freed) q w in
          omega (arith, most (number_at path 0 game), times_at path 0 game ways, two))
          (omega (arith, most j, w, times_under j path game)) (omega (arith, most j, w))) k.loose;
      free_is = k.free_is;
      once = λ j h. omega (arith, k.once j (omega arith), times_change j c path game ways, number j);
      none = λ j h. omega (arith, k.none j (omega arith), times_change j c path game ways, number j);
      all = omega (arith, k.all, size_change c path game ways, sizes, same_length);
    }

-- LET GO of a branch: it is before the other freed nodes
pub let_go_laid : (nodes : List Entry) (free n : ℕ) (m : MoveParts) (game freed below : Grove)
    → Laid nodes free game freed (Tree n m below Empty) → (entry_at nodes n).children ≡ numbers below → Linked Same (entry_at nodes) n 0 below
    → Laid (with_parent n free nodes) n game (Tree n m below freed) Empty
let_go_laid nodes free n m game freed below k owns links =
    let new = with_parent n free nodes in
    let most = once_at_most nodes free game freed (Tree n m below Empty) k in
    let short : n < length nodes = in_range nodes free game freed (Tree n m below Empty) k n (omega (arith, tally_same n)) in
    let l : length new ≡ length nodes = length-set nodes n (record (entry_at nodes n) { parent = free }) in
    let here : entry_at new n ≡ record (entry_at nodes n) { parent = free } = look_set nodes n (record (entry_at nodes n) { parent = free }) short in
    let off : (j : ℕ) → tally j n ≡ 0 → entry_at new j ≡ entry_at nodes j = λ j h. look_set_other nodes n j (record (entry_at nodes n) { parent = free }) (apart j n h) in
    record {
      root = ap (λ (s : Entry). s.children) (off 0 (omega (arith, most 0, tally_same 0))) ∙ k.root;
      linked = linked_frame Same (entry_at nodes) (entry_at new) 0 0 game (λ j w. off j (omega (arith, most j, w))) k.linked;
      loose = (
        ap (λ (s : Entry). s.parent) here ∙ k.free_is,
        ap (λ (s : Entry). s.children) here ∙ owns,
        linked_frame Any (entry_at nodes) (entry_at new) n 0 below (λ j w. off j (omega (arith, most j, w))) (any_linked (entry_at nodes) n n 0 0 below links),
        chained_frame (entry_at nodes) (entry_at new) freed (λ j w. off j (omega (arith, most j, w))) k.loose,
      );
      free_is = refl;
      once = λ j h. omega (arith, k.once j (omega (arith, h, l)));
      none = λ j h. omega (arith, k.none j (omega (arith, h, l)));
      all = omega (arith, k.all, l);
    }

-- ---- the numbers side by side without one, and with it first

remove_numbers : (k : ℕ) (g : Grove) → remove (numbers g) k ≡ numbers (others k g)
remove_numbers zero Empty = refl
remove_numbers (suc k) Empty = refl
remove_numbers zero (Tree i m below next) = refl
remove_numbers (suc k) (Tree i m below next) = ap (λ (is : List ℕ). i ∷ is) (remove_numbers k next)

drop_others : (k : ℕ) (g : Grove) → k < wide g → drop k (numbers (others k g)) ≡ numbers (those_after k g)
drop_others k Empty h = absurd (omega arith)
drop_others zero (Tree i m below next) h = refl
drop_others (suc k) (Tree i m below next) h = drop_others k next (omega arith)

take_others : (k : ℕ) (g : Grove) → k < wide g → take k (numbers (others k g)) ≡ numbers (those_before k g)
take_others k Empty h = absurd (omega arith)
take_others zero (Tree i m below next) h = refl
take_others (suc k) (Tree i m below next) h = ap (λ (is : List ℕ). i ∷ is) (take_others k next (omega arith))

pub detached_is : (nodes : List Entry) (p k : ℕ) (b : Grove) → (entry_at nodes p).children ≡ numbers b → k < wide b
    → detached p k nodes ≡ placed k (numbers (those_after k b)) (with_children p (numbers (others k b)) nodes)
detached_is nodes p k b own h =
    let cs : remove (entry_at nodes p).children k ≡ numbers (others k b) = ap (λ (x : List ℕ). remove x k) own ∙ remove_numbers k b in
    (λ j. placed k (drop k (cs j)) (with_children p (cs j) nodes)) ∙ ap (λ (x : List ℕ). placed k x (with_children p (numbers (others k b)) nodes)) (drop_others k b h)

pub lifted_is : (nodes : List Entry) (p k : ℕ) (b : Grove) → (entry_at nodes p).children ≡ numbers b → k < wide b
    → lifted p k nodes ≡ placed 0 (node_number 0 k b ∷ numbers (those_before k b)) (with_children p (numbers (fronted k b)) nodes)
lifted_is nodes p k b own h =
    let cs : moved_first k (entry_at nodes p).children ≡ numbers (fronted k b) =
    ap (moved_first k) own ∙ (λ j. number_get 0 k b j ∷ remove_numbers k b j) in
    (λ j. placed 0 (take (add-one k j) (cs j)) (with_children p (cs j) nodes))
    ∙ ap (λ (x : List ℕ). placed 0 (node_number 0 k b ∷ x) (with_children p (numbers (fronted k b)) nodes)) (take_others k b h)

-- ---- the children of a node, one of them apart

module _ (nodes : List Entry) (free k : ℕ) (game freed : Grove) (path : List ℕ) (laid : Laid nodes free game freed Empty) (ways : Ways path game) (one : k < wide (under_at path game)) where
  abbrev pub p : ℕ
  p = number_at path 0 game

  abbrev pub b : Grove
  b = under_at path game

  abbrev pub f : Grove
  f = those_before k b

  abbrev pub r : Grove
  r = those_after k b

  abbrev pub h : ℕ
  h = node_number 0 k b

  abbrev pub m : MoveParts
  m = grove_move k b

  abbrev pub u : Grove
  u = under k b

  most : (j : ℕ) → uses j game freed Empty ≤ 1
  most j = once_at_most nodes free game freed Empty laid j

  split : b ≡ join f (Tree h m u r)
  split = parted k b 0 one

  sum : (j : ℕ) → times j b ≡ times j f + (tally j h + times j u + times j r)
  sum j = ap (times j) split ∙ times_join j f (Tree h m u r)

  once : (j : ℕ) → tally j p + times j b ≤ 1
  once j = omega (arith, most j, at_le j path 0 game ways)

  range : (j : ℕ) → 0 < times j b → j < length nodes
  range j w = in_range nodes free game freed Empty laid j (omega (arith, w, times_under j path game))

  range_p : p < length nodes
  range_p = in_range nodes free game freed Empty laid p (omega (arith, times_at path 0 game ways))

  own : ((entry_at nodes p).children ≡ numbers b) × Linked Same (entry_at nodes) p 0 b
  own = linked_at (entry_at nodes) path 0 game ways laid.root laid.linked

  parts : Linked Same (entry_at nodes) p 0 f × Linked Same (entry_at nodes) p (0 + wide f) (Tree h m u r)
  parts = linked_parts Same (entry_at nodes) p 0 f (Tree h m u r) (subst (λ (g : Grove). Linked Same (entry_at nodes) p 0 g) split own.1)

  abbrev mid : List ℕ → List Entry
  mid cs = with_children p cs nodes

  mid_length : (cs : List ℕ) → length (mid cs) ≡ length nodes
  mid_length cs = length-set nodes p (record (entry_at nodes p) { children = cs })

  mid_at : (cs : List ℕ) → entry_at (mid cs) p ≡ record (entry_at nodes p) { children = cs }
  mid_at cs = look_set nodes p (record (entry_at nodes p) { children = cs }) range_p

  mid_off : (cs : List ℕ) (j : ℕ) → tally j p ≡ 0 → entry_at (mid cs) j ≡ entry_at nodes j
  mid_off cs j w = look_set_other nodes p j (record (entry_at nodes p) { children = cs }) (apart j p w)

  -- DETACHED
  pub detached_laid : Laid (detached p k nodes) free (change_at (others k) path game) freed (Tree h m u Empty)
      × ((entry_at (detached p k nodes) h).children ≡ numbers u) × Linked Same (entry_at (detached p k nodes)) h 0 u
  detached_laid =
      let cs = numbers (others k b) in
      let new = placed k (numbers r) (mid cs) in
      let l : length new ≡ length nodes = placed_length k (numbers r) (mid cs) ∙ mid_length cs in
      let off : (j : ℕ) → times j r ≡ 0 → entry_at new j ≡ entry_at (mid cs) j = λ j w. placed_other k (numbers r) (mid cs) j (omega (arith, w, among_numbers j r)) in
      let both : (j : ℕ) → times j r ≡ 0 → tally j p ≡ 0 → entry_at new j ≡ entry_at nodes j = λ j w v. off j w ∙ mid_off cs j v in
      let here : entry_at new p ≡ record (entry_at nodes p) { children = cs } = off p (omega (arith, once p, tally_same p, sum p)) ∙ mid_at cs in
      let after = placed_linked (mid cs) p k r (λ j. omega (arith, once j, sum j)) (λ j w. omega (arith, mid_length cs, range j (omega (arith, w, sum j))))
      (unplaced_frame Same (entry_at nodes) (entry_at (mid cs)) p r (λ j w. mid_off cs j (omega (arith, once j, sum j, w))) (unplaced Same (entry_at nodes) p (suc (0 + wide f)) r parts.1.2)) in
      let before = linked_frame Same (entry_at nodes) (entry_at new) p 0 f (λ j w. both j (omega (arith, once j, sum j, w)) (omega (arith, once j, sum j, w))) parts.0 in
      let row = linked_join Same (entry_at new) p 0 f r before (subst (λ (x : ℕ). Linked Same (entry_at new) p x r) (omega (arith, wide_before k b one)) after) in
      let laid2 = edit_laid nodes new free game freed Empty (Tree h m u Empty) (others k) path l laid ways
      (λ j ne no _. both j (omega (arith, no, sum j)) (tally_other j p ne))
      (subst (λ (s : Entry). StaysBut (entry_at nodes p) s) (sym here) (record { played = refl; parent = refl; place = refl }))
      (ap (λ (s : Entry). s.children) here) row
      (λ j. omega (arith, sum j, times_join j f r))
      (omega (arith, ap size split, size_join f (Tree h m u r), size_join f r)) in
      let branch : entry_at new h ≡ entry_at nodes h = both h (omega (arith, once h, sum h, tally_same h)) (omega (arith, once h, sum h, tally_same h)) in
      subst (λ (x : List Entry). Laid x free (change_at (others k) path game) freed (Tree h m u Empty) × ((entry_at x h).children ≡ numbers u) × Linked Same (entry_at x) h 0 u)
      (sym (detached_is nodes p k b own.0 one)) (
        laid2,
        ap (λ (s : Entry). s.children) branch ∙ parts.1.0.owned.children_is,
        linked_frame Same (entry_at nodes) (entry_at new) h 0 u (λ j w. both j (omega (arith, once j, sum j, w)) (omega (arith, once j, sum j, w))) parts.1.1,
      )

  -- LIFTED
  pub lifted_laid : Laid (lifted p k nodes) free (change_at (fronted k) path game) freed Empty
  lifted_laid =
      let cs = numbers (fronted k b) in
      let first = Tree h m u f in
      let new = placed 0 (numbers first) (mid cs) in
      let l : length new ≡ length nodes = placed_length 0 (numbers first) (mid cs) ∙ mid_length cs in
      let off : (j : ℕ) → times j first ≡ 0 → entry_at new j ≡ entry_at (mid cs) j = λ j w. placed_other 0 (numbers first) (mid cs) j (omega (arith, w, among_numbers j first)) in
      let both : (j : ℕ) → times j first ≡ 0 → tally j p ≡ 0 → entry_at new j ≡ entry_at nodes j = λ j w v. off j w ∙ mid_off cs j v in
      let here : entry_at new p ≡ record (entry_at nodes p) { children = cs } = off p (omega (arith, once p, tally_same p, sum p)) ∙ mid_at cs in
      let loose : Unplaced Same (entry_at nodes) p first = (parts.1.0.owned, parts.1.1, unplaced Same (entry_at nodes) p 0 f parts.0) in
      let before = placed_linked (mid cs) p 0 first (λ j. omega (arith, once j, sum j)) (λ j w. omega (arith, mid_length cs, range j (omega (arith, w, sum j))))
      (unplaced_frame Same (entry_at nodes) (entry_at (mid cs)) p first (λ j w. mid_off cs j (omega (arith, once j, sum j, w))) loose) in
      let after = linked_frame Same (entry_at nodes) (entry_at new) p (suc (0 + wide f)) r (λ j w. both j (omega (arith, once j, sum j, w)) (omega (arith, once j, sum j, w))) parts.1.2 in
      let row = linked_join Same (entry_at new) p 0 first r before (subst (λ (x : ℕ). Linked Same (entry_at new) p x r) (omega arith) after) in
      subst (λ (x : List Entry). Laid x free (change_at (fronted k) path game) freed Empty)
      (sym (lifted_is nodes p k b own.0 one))
      (edit_laid nodes new free game freed Empty Empty (fronted k) path l laid ways
      (λ j ne no _. both j (omega (arith, no, sum j)) (tally_other j p ne))
      (subst (λ (s : Entry). StaysBut (entry_at nodes p) s) (sym here) (record { played = refl; parent = refl; place = refl }))
      (ap (λ (s : Entry). s.children) here) row
      (λ j. omega (arith, sum j, times_join j f r))
      (omega (arith, ap size split, size_join f (Tree h m u r), size_join f r)))

-- ADDED: a node in hand is after the children of another
pub added_laid : (nodes : List Entry) (free n : ℕ) (m : MoveParts) (game freed : Grove) (path : List ℕ) → Laid nodes free game freed (Tree n m Empty Empty) → Ways path game
    → IsLinked Same (entry_at nodes n) (number_at path 0 game) (wide (under_at path game)) m []
    → Laid (with_children (number_at path 0 game) ((entry_at nodes (number_at path 0 game)).children ++ n ∷ []) nodes) free (change_at (λ g. join g (Tree n m Empty Empty)) path game) freed Empty
added_laid nodes free n m game freed path laid ways leaf =
    let p = number_at path 0 game in
    let b = under_at path game in
    let cs = numbers b ++ n ∷ [] in
    let new = with_children p cs nodes in
    let most = once_at_most nodes free game freed (Tree n m Empty Empty) laid in
    let in_game : (j : ℕ) → times j b ≤ times j game = λ j. times_under j path game in
    let once : (j : ℕ) → tally j p + times j b + tally j n ≤ 1 = λ j. omega (arith, most j, at_le j path 0 game ways) in
    let own = linked_at (entry_at nodes) path 0 game ways laid.root laid.linked in
    let range = in_range nodes free game freed (Tree n m Empty Empty) laid p (omega (arith, times_at path 0 game ways)) in
    let here : entry_at new p ≡ record (entry_at nodes p) { children = cs } = look_set nodes p (record (entry_at nodes p) { children = cs }) range in
    let off : (j : ℕ) → j ≢ p → entry_at new j ≡ entry_at nodes j = λ j ne. look_set_other nodes p j (record (entry_at nodes p) { children = cs }) ne in
    let row = linked_join Same (entry_at new) p 0 b (Tree n m Empty Empty)
    (linked_frame Same (entry_at nodes) (entry_at new) p 0 b (λ j w. off j (apart j p (omega (arith, once j, w)))) own.1) (
      subst (λ (s : Entry). IsLinked Same s p (0 + wide b) m []) (sym (off n (apart n p (omega (arith, once n, tally_same n)))))
          (subst (λ (x : ℕ). IsLinked Same (entry_at nodes n) p x m []) (omega arith) leaf),
      tt,
      tt,
    ) in
    subst (λ (x : List ℕ). Laid (with_children p (x ++ n ∷ []) nodes) free (change_at (λ g. join g (Tree n m Empty Empty)) path game) freed Empty) (sym own.0)
    (edit_laid nodes new free game freed (Tree n m Empty Empty) Empty (λ g. join g (Tree n m Empty Empty)) path (length-set nodes p (record (entry_at nodes p) { children = cs })) laid ways
    (λ j ne no _. off j ne)
    (subst (λ (s : Entry). StaysBut (entry_at nodes p) s) (sym here) (record { played = refl; parent = refl; place = refl }))
    (ap (λ (s : Entry). s.children) here ∙ sym (numbers_join b (Tree n m Empty Empty))) row
    (λ j. omega (arith, times_join j b (Tree n m Empty Empty)))
    (omega (arith, size_join b (Tree n m Empty Empty))))

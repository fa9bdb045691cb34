-- The nodes, the freed numbers and the cursor after each edit, and what is seen of them.
use Rattle.std.proofs.Common.{◌≡◌, ◌≢◌, ℕ, ◌+◌, ◌<◌, ◌≤◌, refl, sym, ap, ◌∙◌, subst, List, [], ◌∷◌, ◌++◌, length, arith}
use Rattle.std.proofs.Common.{length-set}
use Rattle.chess_types.specs.board.MoveParts.{MoveParts}
use Rattle.chess_tree.specs.Forest.{Forest, Bare, Node, append, below_at, count, height}
use Rattle.chess_tree.specs.Edits.{change_below, promoted, with_move, without_node}
use Rattle.chess_tree.specs.GameTree.{adding}
use Rattle.chess_tree.specs.steps.Rooted.{Noted, Rooted, edited_root, no_notes, with_below}
use Rattle.chess_tree.specs.steps.Entries.{Entry, leaf_entry, entry_at, with_children, with_parent}
use Rattle.chess_tree.specs.steps.Grove.{Grove, Empty, Tree, tally, times, wide, join, node_number, grove_move, no_move, under, under_at, change_at, number_at, trail_at, plain, Ways}
use Rattle.chess_tree.specs.steps.Linked.{IsLinked}
use Rattle.chess_tree.specs.steps.Laid.{Laid, IsArena, seen, standing, Same}
use Rattle.chess_tree.specs.steps.Notes.{IsNotedAt}
use Rattle.chess_tree.specs.steps.Writes.{detached, lifted}
use Rattle.chess_tree.proofs.EditLemmas.{height_node, height_promoted, height_with_move, height_without}
use Rattle.chess_tree.proofs.TimesLemmas.{tally_same, size_change, size_join}
use Rattle.chess_tree.proofs.SeenLemmas.{once_at_most, seen_is}
use Rattle.chess_tree.proofs.PlacedLemmas.{detached_length, lifted_length}
use Rattle.chess_tree.proofs.LaidLemmas.{added_laid, detached_laid, fronted, let_go_laid, lifted_laid, others}
use Rattle.chess_tree.proofs.GroveLemmas.{changed_at, node_last, number_on, plain_change, plain_join, plain_others, plain_promoted, plain_same, plain_under_at, trail_change, trail_length, trail_on, ways_on, wide_plain}

number_last : (d n : ℕ) (m : MoveParts) (b u : Grove) → (node_number d (wide b) (join b (Tree n m u Empty)) ≡ n) × (wide b < wide (join b (Tree n m u Empty)))
number_last d n m Empty u = (refl, omega arith)
number_last d n m (Tree i k v w) u = let rest = number_last d n m w u in (rest.0, omega (arith, rest.1))

-- a number that is in hand is none of the game's, nor the root's
apart_from_game : (nodes : List Entry) (free n : ℕ) (m : MoveParts) (game freed : Grove) → Laid nodes free game freed (Tree n m Empty Empty) → (j : ℕ) → 0 < tally j 0 + times j game → j ≢ n
apart_from_game nodes free n m game freed k j h q =
    let one : tally j n ≡ 1 = subst (λ (x : ℕ). tally j x ≡ 1) q (tally_same j) in omega (arith, h, one, once_at_most nodes free game freed (Tree n m Empty Empty) k j)

-- ADDED: a node in hand is after the children of the node at the cursor
pub added_from : (nodes : List Entry) (old new : ℕ → Noted) (free n : ℕ) (m : MoveParts) (here : ℕ) (game freed : Grove) (path trail : List ℕ) (room more : ℕ)
    → Laid nodes free game freed (Tree n m Empty Empty) → Ways path game
    → here ≡ number_at path 0 game → trail ≡ trail_at path 0 game → entry_at nodes n ≡ leaf_entry m here (wide (under_at path game)) → length nodes ≤ 1000001
    → IsNotedAt old new n no_notes → height (plain old game) ≤ room → room ≤ more → length trail + 1 ≤ more
    → IsArena (with_children here ((entry_at nodes here).children ++ n ∷ []) nodes) new free n (trail ++ n ∷ []) more
    × (seen (with_children here ((entry_at nodes here).children ++ n ∷ []) nodes) new n ≡ edited_root (adding m) (standing old game path))
added_from nodes old new free n m here game freed path trail room more k ways e te written few notes deep wider space =
    let c = λ (g : Grove). join g (Tree n m Empty Empty) in
    let p = number_at path 0 game in
    let b = under_at path game in
    let after = with_children p ((entry_at nodes p).children ++ n ∷ []) nodes in
    let w : entry_at nodes n ≡ leaf_entry m p (wide b) = written ∙ ap (λ (x : ℕ). leaf_entry m x (wide b)) e in
    let leaf : IsLinked Same (entry_at nodes n) p (wide b) m [] =
    record {
      owned = record { move_is = ap (λ (s : Entry). s.played) w; parent_is = ap (λ (s : Entry). s.parent) w; children_is = ap (λ (s : Entry). s.children) w };
      place_is = ap (λ (s : Entry). s.place) w;
    } in
    let laid = added_laid nodes free n m game freed path k ways leaf in
    let now = changed_at c path 0 game ways in
    let last = number_last (number_at path 0 (change_at c path game)) n m b Empty in
    let there : wide b < wide (under_at path (change_at c path game)) = subst (λ (g : Grove). wide b < wide g) (sym now.2) last.1 in
    let number : node_number (number_at path 0 (change_at c path game)) (wide b) (under_at path (change_at c path game)) ≡ n =
    ap (node_number (number_at path 0 (change_at c path game)) (wide b)) now.2 ∙ last.0 in
    let at : n ≡ number_at (path ++ wide b ∷ []) 0 (change_at c path game) = sym (number_on path (wide b) 0 (change_at c path game) ∙ number) in
    let way : trail_at (path ++ wide b ∷ []) 0 (change_at c path game) ≡ trail ++ n ∷ [] =
    trail_on path (wide b) 0 (change_at c path game) ∙ (λ j. trail_change c path 0 game ways j ++ number j ∷ []) ∙ ap (λ (t : List ℕ). t ++ n ∷ []) (sym te) in
    let same : plain new game ≡ plain old game = plain_same old new game (λ j h. notes.others j (apart_from_game nodes free n m game freed k j (omega (arith, h)))) in
    let zeroth : new 0 ≡ old 0 = notes.others 0 (apart_from_game nodes free n m game freed k 0 (omega (arith, tally_same 0))) in
    let bare : plain new (Tree n m Empty Empty) ≡ Node m [] [] Bare Bare = λ j. Node m (notes.there j).nags (notes.there j).comment Bare Bare in
    let below : plain new (change_at c path game) ≡ change_below (with_move m) path (plain old game) =
    plain_change new c (with_move m) path game (plain_join new b (Tree n m Empty Empty) ∙ ap (append (plain new b)) bare) ∙ ap (change_below (with_move m) path) same in
    let a : IsArena after new free n (trail ++ n ∷ []) more = record {
      game = change_at c path game;
      freed = freed;
      path = path ++ wide b ∷ [];
      laid = laid;
      ways = ways_on path (wide b) (change_at c path game) now.0 there;
      here_is = at;
      trail_is = sym way;
      deep = omega (arith, ap height below, height_with_move m path (plain old game), deep, wider, space, ap length te, trail_length path 0 game);
      few = omega (arith, laid.all, k.all, few, size_change c path game ways, size_join b (Tree n m Empty Empty));
    } in
    let count_is : wide b ≡ count (below_at path (plain old game)) = sym (wide_plain old b) ∙ ap count (plain_under_at old path game) in
    let sight : seen after new n ≡ edited_root (adding m) (standing old game path) =
    seen_is after new free n (trail ++ n ∷ []) more a
    ∙ (λ j. record { root = record { move = no_move; nags = (zeroth j).nags; comment = (zeroth j).comment; below = below j }; path = path ++ count_is j ∷ [] }) in
    subst (λ (h : ℕ). IsArena (with_children h ((entry_at nodes h).children ++ n ∷ []) nodes) new free n (trail ++ n ∷ []) more
    × (seen (with_children h ((entry_at nodes h).children ++ n ∷ []) nodes) new n ≡ edited_root (adding m) (standing old game path))) (sym e) (a, sight)

-- a path that isn't empty: all but its last place, and that
pub last_place : (path : List ℕ) → 0 < length path → (init : List ℕ) × (k : ℕ) × (path ≡ init ++ k ∷ [])
last_place [] h = absurd (omega (arith, h))
last_place (k ∷ []) h = ([], k, refl)
last_place (k ∷ j ∷ path) h = let rest = last_place (j ∷ path) (omega arith) in (k ∷ rest.0, rest.1, ap (λ (p : List ℕ). k ∷ p) rest.2)

-- an edit that makes no siblings higher makes nothing higher
lower : (g : ℕ → Forest → Forest) (path : List ℕ) (k : ℕ) (f : Forest) → ((j : ℕ) (x : Forest) → height (g j x) ≤ height x) → height (change_below (g k) path f) ≤ height f
lower g path k f h = omega (arith, ap height (node_last g path k f), height_node g (path ++ k ∷ []) f h)

-- the root with another change below it
abbrev pub edited_below : (Forest → Forest) → (ℕ → Noted) → Grove → List ℕ → List ℕ → Rooted
edited_below change noted game path new = record { root = with_below (change_below change path) (standing noted game path).root; path = new }

-- DELETED
pub deleted_from : (nodes : List Entry) (noted : ℕ → Noted) (free k : ℕ) (game freed : Grove) (path trail : List ℕ) (room : ℕ) → Laid nodes free game freed Empty → Ways path game → k < wide (under_at path game) → length nodes ≤ 1000001
    → height (plain noted game) ≤ room → trail ≡ trail_at path 0 game
    → (p h : ℕ) → p ≡ number_at path 0 game → h ≡ node_number 0 k (under_at path game)
    → IsArena (with_parent h free (detached p k nodes)) noted h p trail room
    × (seen (with_parent h free (detached p k nodes)) noted p ≡ edited_below (without_node k) noted game path path)
deleted_from nodes noted free k game freed path trail room laid ways one few deep te p h ep eh =
    let p0 = number_at path 0 game in
    let b = under_at path game in
    let h0 = node_number 0 k b in
    let mid = detached p0 k nodes in
    let new = with_parent h0 free mid in
    let off = detached_laid nodes free k game freed path laid ways one in
    let gone = let_go_laid mid free h0 (grove_move k b) (change_at (others k) path game) freed (under k b) off.0 off.1 off.2 in
    let now = changed_at (others k) path 0 game ways in
    let below : plain noted (change_at (others k) path game) ≡ change_below (without_node k) path (plain noted game) = plain_change noted (others k) (without_node k) path game (plain_others noted k b) in
    let a : IsArena new noted h0 p0 trail room = record {
      game = change_at (others k) path game;
      freed = Tree h0 (grove_move k b) (under k b) freed;
      path = path;
      laid = gone;
      ways = now.0;
      here_is = sym now.1;
      trail_is = te ∙ sym (trail_change (others k) path 0 game ways);
      deep = omega (arith, deep, ap height below, lower without_node path k (plain noted game) height_without);
      few = omega (arith, few, length-set mid h0 (record (entry_at mid h0) { parent = free }), detached_length p0 k nodes);
    } in
    let sight = seen_is new noted h0 p0 trail room a ∙ (λ j. record { root = record { move = no_move; nags = (noted 0).nags; comment = (noted 0).comment; below = below j }; path = path }) in
    let goal = λ (x z : ℕ). IsArena (with_parent z free (detached x k nodes)) noted z x trail room × (seen (with_parent z free (detached x k nodes)) noted x ≡ edited_below (without_node k) noted game path path) in
    subst (λ (x : ℕ). goal x h) (sym ep) (subst (goal p0) (sym eh) (a, sight))

-- PROMOTED
pub promoted_from : (nodes : List Entry) (noted : ℕ → Noted) (free k : ℕ) (game freed : Grove) (path trail : List ℕ) (room : ℕ) → Laid nodes free game freed Empty → Ways path game → k < wide (under_at path game) → length nodes ≤ 1000001
    → height (plain noted game) ≤ room → trail ≡ trail_at path 0 game ++ node_number 0 k (under_at path game) ∷ []
    → (p h : ℕ) → p ≡ number_at path 0 game → h ≡ node_number 0 k (under_at path game)
    → IsArena (lifted p k nodes) noted free h trail room × (seen (lifted p k nodes) noted h ≡ edited_below (promoted k) noted game path (path ++ 0 ∷ []))
promoted_from nodes noted free k game freed path trail room laid ways one few deep te p h ep eh =
    let p0 = number_at path 0 game in
    let b = under_at path game in
    let h0 = node_number 0 k b in
    let c = fronted k in
    let new = lifted p0 k nodes in
    let laid2 = lifted_laid nodes free k game freed path laid ways one in
    let now = changed_at c path 0 game ways in
    let there : 0 < wide (under_at path (change_at c path game)) = subst (λ (g : Grove). 0 < wide g) (sym now.2) (omega arith) in
    let number : node_number (number_at path 0 (change_at c path game)) 0 (under_at path (change_at c path game)) ≡ h0 = ap (node_number (number_at path 0 (change_at c path game)) 0) now.2 in
    let way : trail_at (path ++ 0 ∷ []) 0 (change_at c path game) ≡ trail_at path 0 game ++ h0 ∷ [] =
    trail_on path 0 0 (change_at c path game) ∙ (λ j. trail_change c path 0 game ways j ++ number j ∷ []) in
    let below : plain noted (change_at c path game) ≡ change_below (promoted k) path (plain noted game) = plain_change noted c (promoted k) path game (plain_promoted noted 0 k b one) in
    let a : IsArena new noted free h0 trail room = record {
      game = change_at c path game;
      freed = freed;
      path = path ++ 0 ∷ [];
      laid = laid2;
      ways = ways_on path 0 (change_at c path game) now.0 there;
      here_is = sym (number_on path 0 0 (change_at c path game) ∙ number);
      trail_is = te ∙ sym way;
      deep = omega (arith, deep, ap height below, lower promoted path k (plain noted game) height_promoted);
      few = omega (arith, few, lifted_length p0 k nodes);
    } in
    let sight = seen_is new noted free h0 trail room a ∙ (λ j. record { root = record { move = no_move; nags = (noted 0).nags; comment = (noted 0).comment; below = below j }; path = path ++ 0 ∷ [] }) in
    let goal = λ (x z : ℕ). IsArena (lifted x k nodes) noted free z trail room × (seen (lifted x k nodes) noted z ≡ edited_below (promoted k) noted game path (path ++ 0 ∷ [])) in
    subst (λ (x : ℕ). goal x h) (sym ep) (subst (goal p0) (sym eh) (a, sight))

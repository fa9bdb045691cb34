-- What each call of the arena finds, asks and leaves.
use Rattle.std.proofs.Common.{◌≡◌, ◌≢◌, ◌==◌, ℕ, zero, suc, ◌+◌, ◌<◌, ◌≤◌, refl, sym, ap, ◌∙◌, subst, List, [], ◌∷◌, ◌++◌, length, length-set, get_or, slice_get, take, Option, Some, None, inl, inr, arith}
use Rattle.std.specs.Prelude.{nat_le}
use Rattle.std.proofs.lemmas.Bool.{cases_lt}
use Rattle.std.proofs.lemmas.Bool.Decides.{nat_tests}
use Rattle.chess_types.specs.board.MoveParts.{MoveParts}
use Rattle.chess_tree.specs.Forest.{below_at, count, height, moves_held}
use Rattle.chess_tree.specs.Edits.{annotated, unannotated, change_below, change_node, commented, parent, promoted, without_node}
use Rattle.chess_tree.specs.GameTree.{adding, annotating, unannotating, deleting, find, promoting}
use Rattle.chess_tree.specs.WellFormed.{Leads}
use Rattle.chess_tree.specs.steps.Rooted.{Held, Noted, Rooted, commented_at, commented_root, edited_root, no_notes, path_root, with_below}
use Rattle.chess_tree.specs.steps.Entries.{Entry, leaf_entry, entry_at, with_children, with_parent}
use Rattle.chess_tree.specs.steps.Grove.{Grove, no_move, Empty, Tree, tally, times, size, wide, first_of, node_number, under, under_at, number_at, trail_at, plain, Ways}
use Rattle.chess_tree.specs.steps.Laid.{IsArena, seen, standing, uses, Same}
use Rattle.chess_tree.specs.steps.Freed.{IsPool, IsPut}
use Rattle.chess_tree.specs.steps.Notes.{IsNotedAt}
use Rattle.chess_tree.specs.steps.Writes.{detached, lifted}
use Rattle.chess_tree.specs.steps.Siblings.{HasChild, IsFind, IsOwner, Owner}
use Rattle.chess_tree.proofs.EditLemmas.{deeper, height_annotated, height_unannotated, height_commented, height_node, path_le_height}
use Rattle.chess_tree.proofs.TimesLemmas.{tally_same, tally_is, times_deep}
use Rattle.chess_tree.proofs.LinkLemmas.{linked_one}
use Rattle.chess_tree.proofs.SeenLemmas.{once_at_most, seen_is}
use Rattle.chess_tree.proofs.GroveLemmas.{annotated_is, unannotated_is, commented_is, node_last, number_on, parent_last, plain_noted, plain_same, plain_under, plain_under_at, trail_length, trail_on, ways_back, ways_on, wide_plain}
use Rattle.chess_tree.proofs.LaidLemmas.{in_range, let_go_laid}
use Rattle.chess_tree.proofs.ArenaEdits.{added_from, deleted_from, last_place, promoted_from}
use Rattle.chess_tree.proofs.SiblingLemmas.{are_there, child_in, child_number, child_past, count_is, few_children, number_range, owner_at}

-- ---- new

root_once : (n : Entry) (j : ℕ) → j < length (n ∷ []) → uses j Empty Empty Empty ≡ 1
root_once n j h = let is : j ≡ 0 = omega (arith, h) in let one : tally j 0 ≡ 1 = subst (λ (y : ℕ). tally j y ≡ 1) is (tally_same j) in omega (arith, one)

root_none : (n : Entry) (j : ℕ) → length (n ∷ []) ≤ j → uses j Empty Empty Empty ≡ 0
root_none n j h = elim (cases_lt 0 (tally j 0)) [ inl w ↦ absurd (omega (arith, h, tally_is j 0 w)) | inr w ↦ omega (arith, w) ]

pub new_arena : (nodes : List Entry) (noted : ℕ → Noted) (trail : List ℕ) (room : ℕ) → nodes ≡ leaf_entry no_move 0 0 ∷ [] → trail ≡ [] → IsArena nodes noted 0 0 trail room
new_arena nodes noted trail room e t =
    subst (λ (x : List Entry). IsArena x noted 0 0 trail room) (sym e)
    (record {
      game = Empty;
      freed = Empty;
      path = [];
      laid = record { root = refl; linked = tt; loose = tt; free_is = refl; once = root_once (leaf_entry no_move 0 0); none = root_none (leaf_entry no_move 0 0); all = omega arith };
      ways = tt;
      here_is = refl;
      trail_is = t;
      deep = omega arith;
      few = omega arith;
    })

-- ---- how many

size_plain : (noted : ℕ → Noted) (g : Grove) → moves_held (plain noted g) ≡ size g
size_plain noted Empty = refl
size_plain noted (Tree i m below next) = omega (arith, size_plain noted below, size_plain noted next)

no_head : (g : Grove) → times 0 g ≡ 0 → first_of g ≡ 0 → size g ≡ 0
no_head Empty h e = refl
no_head (Tree i m below next) h e = let one : tally 0 i ≡ 1 = subst (λ (y : ℕ). tally 0 y ≡ 1) (sym e) (tally_same 0) in absurd (omega (arith, one, h))

some_head : (g : Grove) → 0 < first_of g → 0 < size g
some_head Empty h = absurd (omega (arith, h))
some_head (Tree i m below next) h = omega arith

-- ---- paths

-- only the root's number is 0
root_path : (path : List ℕ) (g : Grove) → Ways path g → ((j : ℕ) → tally j 0 + times j g ≤ 1) → number_at path 0 g ≡ 0 → path ≡ []
root_path [] g w once e = refl
root_path (k ∷ path) g w once e =
    let deep : 0 < times 0 g = subst (λ (x : ℕ). 0 < times x g) e (times_deep k path 0 g w) in absurd (omega (arith, deep, once 0, tally_same 0))

pub number_any : (d k : ℕ) (g : Grove) → k < wide g → node_number d k g ≡ node_number 0 k g
number_any d k Empty h = absurd (omega (arith, h))
number_any d zero (Tree i m below next) h = refl
number_any d (suc k) (Tree i m below next) h = number_any d k next (omega (arith, h))

pub ways_leads : (noted : ℕ → Noted) (path : List ℕ) (g : Grove) → Ways path g → Leads path (plain noted g)
ways_leads noted [] g w = tt
ways_leads noted (k ∷ path) g w = (omega (arith, w.0, wide_plain noted g), rw (← plain_under noted k g) (ways_leads noted path (under k g) w.1))

trail_take : (path : List ℕ) (i : ℕ) (g : Grove) (depth : ℕ) → depth < length path → get_or (trail_at path i g) depth 0 ≡ number_at (take (suc depth) path) i g
trail_take [] i g depth h = absurd (omega (arith, h))
trail_take (k ∷ path) i g zero h = refl
trail_take (k ∷ path) i g (suc depth) h = trail_take path (node_number i k g) (under k g) depth (omega (arith, h))

number_take : (path : List ℕ) (i : ℕ) (g : Grove) (depth : ℕ) → depth < length path
    → number_at (take (suc depth) path) i g ≡ node_number (number_at (take depth path) i g) (get_or path depth 0) (under_at (take depth path) g)
number_take [] i g depth h = absurd (omega (arith, h))
number_take (k ∷ path) i g zero h = refl
number_take (k ∷ path) i g (suc depth) h = number_take path (node_number i k g) (under k g) depth (omega (arith, h))

ways_take : (path : List ℕ) (g : Grove) (depth : ℕ) → Ways path g → depth < length path → Ways (take depth path) g × (get_or path depth 0 < wide (under_at (take depth path) g))
ways_take [] g depth w h = absurd (omega (arith, h))
ways_take (k ∷ path) g zero w h = (tt, w.0)
ways_take (k ∷ path) g (suc depth) w h = let rest = ways_take path (under k g) depth w.1 (omega (arith, h)) in ((w.0, rest.0), rest.1)

-- ---- other notes

annotated_game : (old new : ℕ → Noted) (nag : ℕ) (path : List ℕ) (game : Grove) → 0 < length path → Ways path game → ((j : ℕ) → tally j 0 + times j game ≤ 1)
    → IsNotedAt old new (number_at path 0 game) (record { nags = (old (number_at path 0 game)).nags ++ nag ∷ []; comment = (old (number_at path 0 game)).comment })
    → (plain new game ≡ change_node (annotated nag) path (plain old game)) × (new 0 ≡ old 0)
annotated_game old new nag [] game h ways once notes = absurd (omega (arith, h))
annotated_game old new nag (k ∷ path) game h ways once notes = (
  plain_noted old new (λ n. record { nags = n.nags ++ nag ∷ []; comment = n.comment }) k path 0 game ways (λ j. omega (arith, once j)) notes.others notes.there
      ∙ (λ j. change_node (λ x f. annotated_is nag x f j) (k ∷ path) (plain old game)),
  notes.others 0 (λ q. let deep : 0 < times 0 game = subst (λ (x : ℕ). 0 < times x game) (sym q) (times_deep k path 0 game ways) in omega (arith, deep, once 0, tally_same 0)),
)

unannotated_game : (old new : ℕ → Noted) (path : List ℕ) (game : Grove) → 0 < length path → Ways path game → ((j : ℕ) → tally j 0 + times j game ≤ 1)
    → IsNotedAt old new (number_at path 0 game) (record { nags = []; comment = (old (number_at path 0 game)).comment })
    → (plain new game ≡ change_node unannotated path (plain old game)) × (new 0 ≡ old 0)
unannotated_game old new [] game h ways once notes = absurd (omega (arith, h))
unannotated_game old new (k ∷ path) game h ways once notes = (
  plain_noted old new (λ n. record { nags = []; comment = n.comment }) k path 0 game ways (λ j. omega (arith, once j)) notes.others notes.there
      ∙ (λ j. change_node (λ x f. unannotated_is x f j) (k ∷ path) (plain old game)),
  notes.others 0 (λ q. let deep : 0 < times 0 game = subst (λ (x : ℕ). 0 < times x game) (sym q) (times_deep k path 0 game ways) in omega (arith, deep, once 0, tally_same 0)),
)

commented_standing : (old new : ℕ → Noted) (text path : List ℕ) (game : Grove) → Ways path game → ((j : ℕ) → tally j 0 + times j game ≤ 1)
    → IsNotedAt old new (number_at path 0 game) (record { nags = (old (number_at path 0 game)).nags; comment = text })
    → standing new game path ≡ commented_root text (standing old game path)
commented_standing old new text [] game ways once notes =
    let same = plain_same old new game (λ j h. notes.others j (λ q. let none : 0 < times 0 game = subst (λ (x : ℕ). 0 < times x game) q h in omega (arith, none, once 0, tally_same 0))) in
    λ j. record { root = record { move = no_move; nags = (notes.there j).nags; comment = (notes.there j).comment; below = same j }; path = [] }
commented_standing old new text (k ∷ path) game ways once notes =
    let below =
    plain_noted old new (λ n. record { nags = n.nags; comment = text }) k path 0 game ways (λ j. omega (arith, once j)) notes.others notes.there
    ∙ (λ j. change_node (λ x f. commented_is text x f j) (k ∷ path) (plain old game)) in
    let zeroth = notes.others 0 (λ q. let deep : 0 < times 0 game = subst (λ (x : ℕ). 0 < times x game) (sym q) (times_deep k path 0 game ways) in omega (arith, deep, once 0, tally_same 0)) in
    λ j. record { root = record { move = no_move; nags = (zeroth j).nags; comment = (zeroth j).comment; below = below j }; path = k ∷ path }

-- a comment makes nothing higher
height_comment : (text path : List ℕ) (n : Held) → height (commented_at text path n).below ≤ height n.below
height_comment text [] n = omega arith
height_comment text (k ∷ path) n = height_node (commented text) (k ∷ path) n.below (height_commented text)

-- the prefix of a list that ends in one more
pub front_is : (xs ys init : List ℕ) (a k : ℕ) → xs ≡ ys ++ a ∷ [] → xs ≡ init ++ k ∷ [] → ys ≡ init
front_is xs ys init a k e w = sym (parent_last ys a) ∙ ap parent (sym e ∙ w) ∙ parent_last init k

-- where the node at the cursor hangs
pub record Hangs (nodes : List Entry) (here : ℕ) (game : Grove) (path trail : List ℕ) : Type 0 where
  pub init : List ℕ
  pub place : ℕ
  pub path_is : path ≡ init ++ place ∷ []
  pub parent_path : init ≡ parent path
  pub ways : Ways init game
  pub short : place < wide (under_at init game)
  pub parent_is : (entry_at nodes here).parent ≡ number_at init 0 game
  pub place_is : (entry_at nodes here).place ≡ place
  pub is : here ≡ node_number 0 place (under_at init game)
  pub owner : Owner nodes (entry_at nodes here).parent (under_at init game)
  pub trail_is : trail ≡ trail_at init 0 game ++ here ∷ []

module _ (nodes : List Entry) (noted : ℕ → Noted) (free here : ℕ) (trail : List ℕ) (room : ℕ) (z : Rooted) (a : IsArena nodes noted free here trail room) (v : seen nodes noted here ≡ z) where
  z_is : z ≡ standing noted a.game a.path
  z_is = sym v ∙ seen_is nodes noted free here trail room a

  once_used : (j : ℕ) → tally j 0 + times j a.game ≤ 1
  once_used j = omega (arith, once_at_most nodes free a.game a.freed Empty a.laid j)

  held_seen : moves_held z.root.below ≡ size a.game
  held_seen = ap (λ (x : Rooted). moves_held x.root.below) z_is ∙ size_plain noted a.game

  long : z.path ≡ a.path
  long = ap (λ (x : Rooted). x.path) z_is

  -- with no freed number, every node is one of the game
  pub all_held : free ≡ 0 → moves_held z.root.below + 1 ≡ length nodes
  all_held e =
      omega (arith, held_seen, a.laid.all, no_head a.freed (omega (arith, once_at_most nodes free a.game a.freed Empty a.laid 0, tally_same 0)) (sym a.laid.free_is ∙ e))

  -- with one, there is room
  pub room_left : 0 < free → moves_held z.root.below < 1000000
  room_left h = omega (arith, held_seen, a.laid.all, a.few, some_head a.freed (omega (arith, a.laid.free_is, h)))

  -- there is room for the way down to each node
  pub room_seen : height z.root.below ≤ room
  room_seen = subst (λ (y : Rooted). height y.root.below ≤ room) (sym z_is) a.deep

  pub few_held : moves_held z.root.below ≤ 1000000
  few_held = omega (arith, held_seen, a.laid.all, a.few)

  pub full_is : (n : ℕ) → n ≡ length nodes → free ≡ 0 → (n == 1000001) ≡ nat_le 1000000 (moves_held z.root.below)
  full_is n e f =
      let all = all_held f in
      let few = few_held in
      elim (cases_lt (moves_held z.root.below) 1000000) [
        | inl w ↦ (let no : n ≢ 1000001 = omega (arith, all, e, w) in grind (arith, nat_tests))
        | inr w ↦ (let yes : n ≡ 1000001 = omega (arith, all, e, w, few) in grind (arith, nat_tests))
      ]

  pub not_full : free ≢ 0 → (free == 0) ≡ nat_le 1000000 (moves_held z.root.below)
  not_full h =
      let less = room_left (omega (arith, h)) in
      grind (arith, nat_tests)

  -- ---- what is asked

  pub pool : IsPool nodes free
  pool = (a.game, a.freed, a.laid)

  -- ---- the children at the cursor

  owner_here : Owner nodes here (under_at a.path a.game)
  owner_here = subst (λ (x : ℕ). Owner nodes x (under_at a.path a.game)) (sym a.here_is) (owner_at nodes free a.game a.freed Empty a.path a.laid a.ways)

  pub is_owner : IsOwner nodes here
  is_owner = (under_at a.path a.game, owner_here)

  pub here_range : here < length nodes
  here_range = owner_here.there

  pub here_few : length (entry_at nodes here).children ≤ 1000001
  here_few = omega (arith, few_children nodes here (under_at a.path a.game) owner_here, a.few)

  here_below : below_at z.path z.root.below ≡ plain noted (under_at a.path a.game)
  here_below = ap (λ (x : Rooted). below_at x.path x.root.below) z_is ∙ sym (plain_under_at noted a.path a.game)

  here_wide : count (below_at z.path z.root.below) ≡ wide (under_at a.path a.game)
  here_wide = ap count here_below ∙ wide_plain noted (under_at a.path a.game)

  pub counted : length (entry_at nodes here).children ≡ count (below_at z.path z.root.below)
  counted = count_is nodes here (under_at a.path a.game) owner_here ∙ sym here_wide

  pub finds : {o : Option ℕ} (m : MoveParts) → IsFind nodes here m o → o ≡ find m (below_at z.path z.root.below)
  finds m h = h (under_at a.path a.game) owner_here noted ∙ ap (find m) (sym here_below)

  -- the way down has room
  pub step_room : (place child : ℕ) → Some child ≡ slice_get (entry_at nodes here).children place → length trail < room
  step_room place child at =
      let short = child_in nodes here place child (under_at a.path a.game) owner_here at in
      let f = plain noted a.game in
      let some : 0 < count (below_at a.path f) = omega (arith, short, ap count (plain_under_at noted a.path a.game), wide_plain noted (under_at a.path a.game)) in
      omega (arith, path_le_height a.path f (ways_leads noted a.path a.game a.ways), deeper (below_at a.path f) some, a.deep, ap length a.trail_is, trail_length a.path 0 a.game)

  pub stepped : (place child : ℕ) (new : List ℕ) (more : ℕ) → Some child ≡ slice_get (entry_at nodes here).children place → new ≡ trail ++ child ∷ [] → room ≤ more
      → IsArena nodes noted free child new more × (seen nodes noted child ≡ path_root (z.path ++ place ∷ []) z) × (place < count (below_at z.path z.root.below))
  stepped place child new more at e wider =
      let b = under_at a.path a.game in
      let is : child ≡ node_number 0 place b = child_number nodes here place child b owner_here at in
      let short : place < wide b = child_in nodes here place child b owner_here at in
      let number : child ≡ node_number (number_at a.path 0 a.game) place b = is ∙ sym (number_any (number_at a.path 0 a.game) place b short) in
      let now : IsArena nodes noted free child new more = record {
        game = a.game;
        freed = a.freed;
        path = a.path ++ place ∷ [];
        laid = a.laid;
        ways = ways_on a.path place a.game a.ways short;
        here_is = number ∙ sym (number_on a.path place 0 a.game);
        trail_is = e ∙ (λ j. a.trail_is j ++ number j ∷ []) ∙ sym (trail_on a.path place 0 a.game);
        deep = omega (arith, a.deep, wider);
        few = a.few;
      } in (
        now,
        seen_is nodes noted free child new more now ∙ ap (λ (x : Rooted). path_root (x.path ++ place ∷ []) x) (sym z_is),
        omega (arith, short, here_wide),
      )

  pub no_step : (place : ℕ) → None ≡ slice_get (entry_at nodes here).children place → count (below_at z.path z.root.below) ≤ place
  no_step place at = omega (arith, here_wide, child_past nodes here place (under_at a.path a.game) owner_here at)

  -- ---- the parent

  pub hangs : 0 < length z.path → Hangs nodes here a.game a.path trail
  hangs h =
      let last = last_place a.path (omega (arith, ap length long, h)) in
      let init = last.0 in
      let k = last.1 in
      let ways = ways_back init k a.game (subst (λ (p : List ℕ). Ways p a.game) last.2 a.ways) in
      let p = number_at init 0 a.game in
      let b = under_at init a.game in
      let o = owner_at nodes free a.game a.freed Empty init a.laid ways.0 in
      let at : here ≡ node_number p k b = a.here_is ∙ ap (λ (x : List ℕ). number_at x 0 a.game) last.2 ∙ number_on init k 0 a.game in
      let is : here ≡ node_number 0 k b = at ∙ number_any p k b ways.1 in
      let one = (linked_one Same (entry_at nodes) p 0 0 k b ways.1 o.linked).0 in
      let parent_of : (entry_at nodes here).parent ≡ p = ap (λ (x : ℕ). (entry_at nodes x).parent) is ∙ one.owned.parent_is in
      record {
        init = init;
        place = k;
        path_is = last.2;
        parent_path = sym (parent_last init k) ∙ ap parent (sym last.2);
        ways = ways.0;
        short = ways.1;
        parent_is = parent_of;
        place_is = ap (λ (x : ℕ). (entry_at nodes x).place) is ∙ one.place_is ∙ omega arith;
        is = is;
        owner = subst (λ (x : ℕ). Owner nodes x b) (sym parent_of) o;
        trail_is = a.trail_is ∙ ap (λ (x : List ℕ). trail_at x 0 a.game) last.2 ∙ trail_on init k 0 a.game ∙ ap (λ (x : ℕ). trail_at init 0 a.game ++ x ∷ []) (sym at);
      }

  pub some_trail : 0 < length z.path → 0 < length trail
  some_trail h = omega (arith, ap length long, h, ap length a.trail_is, trail_length a.path 0 a.game)

  pub depth_is : length trail ≡ length z.path
  depth_is = ap length a.trail_is ∙ trail_length a.path 0 a.game ∙ ap length (sym long)

  pub backed : (at : ℕ) (new : List ℕ) (gone more : ℕ) → 0 < length z.path → at ≡ (entry_at nodes here).parent → trail ≡ new ++ gone ∷ [] → more ≡ room
      → IsArena nodes noted free at new more × (seen nodes noted at ≡ path_root (parent z.path) z)
  backed at new gone more h e t r =
      let w = hangs h in
      let now : IsArena nodes noted free at new more = record {
        game = a.game;
        freed = a.freed;
        path = w.init;
        laid = a.laid;
        ways = w.ways;
        here_is = e ∙ w.parent_is;
        trail_is = front_is trail new (trail_at w.init 0 a.game) gone here t w.trail_is;
        deep = omega (arith, a.deep, r);
        few = a.few;
      } in (
        now,
        seen_is nodes noted free at new more now ∙ (λ j. standing noted a.game (w.parent_path j)) ∙ ap (λ (x : Rooted). path_root (parent x.path) x) (sym z_is),
      )

  -- the parent's children
  pub has_child : (at place : ℕ) → 0 < length z.path → at ≡ (entry_at nodes here).parent → place ≡ (entry_at nodes here).place → HasChild nodes at place
  has_child at place h ea ep =
      let w = hangs h in
      let b = under_at w.init a.game in
      let o = subst (λ (x : ℕ). Owner nodes x b) (sym ea) w.owner in
      record {
        node = o.there;
        child = omega (arith, ep, w.place_is, w.short, count_is nodes at b o);
        children = are_there nodes at b o;
        few = omega (arith, few_children nodes at b o, a.few);
      }

  -- ---- places

  pub place_at_depth : (depth : ℕ) → depth < length z.path → (get_or trail depth 0 < length nodes) × ((entry_at nodes (get_or trail depth 0)).place ≡ get_or z.path depth 0)
  place_at_depth depth h =
      let within : depth < length a.path = omega (arith, h, ap length long) in
      let ways = ways_take a.path a.game depth a.ways within in
      let p = number_at (take depth a.path) 0 a.game in
      let b = under_at (take depth a.path) a.game in
      let k = get_or a.path depth 0 in
      let o = owner_at nodes free a.game a.freed Empty (take depth a.path) a.laid ways.0 in
      let is : get_or trail depth 0 ≡ node_number 0 k b =
      ap (λ (t : List ℕ). get_or t depth 0) a.trail_is ∙ trail_take a.path 0 a.game depth within ∙ number_take a.path 0 a.game depth within ∙ number_any p k b ways.1 in
      let one = (linked_one Same (entry_at nodes) p 0 0 k b ways.1 o.linked).0 in (
        omega (arith, is, number_range nodes p k b o ways.1),
        ap (λ (x : ℕ). (entry_at nodes x).place) is ∙ one.place_is ∙ omega arith ∙ ap (λ (x : List ℕ). get_or x depth 0) (sym long),
      )

  -- ---- delete and promote

  pub deleted_now : (at place : ℕ) (left : List ℕ) (gone more : ℕ) → 0 < length z.path
      → at ≡ (entry_at nodes here).parent → place ≡ (entry_at nodes here).place
      → trail ≡ left ++ gone ∷ [] → more ≡ room
      → IsArena (with_parent here free (detached at place nodes)) noted here at left more × (seen (with_parent here free (detached at place nodes)) noted at ≡ edited_root deleting z)
  deleted_now at place left gone more h ea ep t r =
      let w = hangs h in
      let on =
      deleted_from nodes noted free w.place a.game a.freed w.init left more a.laid w.ways w.short a.few (omega (arith, a.deep, r)) (front_is trail left (trail_at w.init 0 a.game) gone here t w.trail_is)
      at here (ea ∙ w.parent_is) w.is in
      let below : change_below (without_node w.place) w.init (plain noted a.game) ≡ change_node without_node a.path (plain noted a.game) =
      sym (node_last without_node w.init w.place (plain noted a.game)) ∙ ap (λ (p : List ℕ). change_node without_node p (plain noted a.game)) (sym w.path_is) in
      subst (λ (x : ℕ). IsArena (with_parent here free (detached at x nodes)) noted here at left more × (seen (with_parent here free (detached at x nodes)) noted at ≡ edited_root deleting z))
      (sym (ep ∙ w.place_is))
      (on.0, on.1 ∙ (λ j. record { root = with_below (λ _. below j) (standing noted a.game a.path).root; path = w.parent_path j }) ∙ ap (edited_root deleting) (sym z_is))

  pub promoted_now : (at place : ℕ) → 0 < length z.path → at ≡ (entry_at nodes here).parent → place ≡ (entry_at nodes here).place
      → IsArena (lifted at place nodes) noted free here trail room × (seen (lifted at place nodes) noted here ≡ edited_root promoting z)
  promoted_now at place h ea ep =
      let w = hangs h in
      let on =
      promoted_from nodes noted free w.place a.game a.freed w.init trail room a.laid w.ways w.short a.few a.deep (w.trail_is ∙ ap (λ (x : ℕ). trail_at w.init 0 a.game ++ x ∷ []) w.is)
      at here (ea ∙ w.parent_is) w.is in
      let below : change_below (promoted w.place) w.init (plain noted a.game) ≡ change_node promoted a.path (plain noted a.game) =
      sym (node_last promoted w.init w.place (plain noted a.game)) ∙ ap (λ (p : List ℕ). change_node promoted p (plain noted a.game)) (sym w.path_is) in
      subst (λ (x : ℕ). IsArena (lifted at x nodes) noted free here trail room × (seen (lifted at x nodes) noted here ≡ edited_root promoting z))
      (sym (ep ∙ w.place_is))
      (on.0, on.1 ∙ (λ j. record { root = with_below (λ _. below j) (standing noted a.game a.path).root; path = w.parent_path j ++ 0 ∷ [] }) ∙ ap (edited_root promoting) (sym z_is))

  -- ---- add

  -- other notes and other room for the trail change nothing where it is high enough
  stays : (later : ℕ → Noted) (more : ℕ) → height (plain later a.game) ≤ more → IsArena nodes later free here trail more
  stays later more h = record {
    game = a.game;
    freed = a.freed;
    path = a.path;
    laid = a.laid;
    ways = a.ways;
    here_is = a.here_is;
    trail_is = a.trail_is;
    deep = h;
    few = a.few;
  }

  pub more_room : (more : ℕ) → room ≤ more → IsArena nodes noted free here trail more
  more_room more h = stays noted more (omega (arith, a.deep, h))

  -- a node laid in hand
  pub put_there : (mid : List Entry) (next number : ℕ) (m : MoveParts) (place : ℕ) → IsPut nodes free (leaf_entry m here place) mid next number
      → (here < length mid) × (number < length mid)
  put_there mid next number m place put =
      let on = put a.game a.freed a.laid in
      let o = owner_at mid next a.game on.later (Tree number m Empty Empty) a.path on.laid a.ways in
      (omega (arith, a.here_is, o.there), in_range mid next a.game on.later (Tree number m Empty Empty) on.laid number (omega (arith, tally_same number)))

  pub put_room : moves_held z.root.below < 1000000 → free ≡ 0 → length nodes ≤ 1000000
  put_room few h = omega (arith, all_held h, few)

  pub put_now : (mid : List Entry) (later : ℕ → Noted) (m : MoveParts) (place next number : ℕ) (way : List ℕ) (more : ℕ) → length mid ≤ 1000001
      → place ≡ length (entry_at nodes here).children → IsPut nodes free (leaf_entry m here place) mid next number → IsNotedAt noted later number no_notes
      → way ≡ trail ++ number ∷ [] → room ≤ more → length trail + 1 ≤ more
      → IsArena (with_children here ((entry_at mid here).children ++ number ∷ []) mid) later next number way more
      × (seen (with_children here ((entry_at mid here).children ++ number ∷ []) mid) later number ≡ edited_root (adding m) z)
  put_now mid later m place next number way more few ep put notes e wider space =
      let on = put a.game a.freed a.laid in
      let wide_is : place ≡ wide (under_at a.path a.game) = ep ∙ count_is nodes here (under_at a.path a.game) owner_here in
      let all = added_from mid noted later next number m here a.game on.later a.path trail room more on.laid a.ways a.here_is a.trail_is
      (on.is ∙ ap (leaf_entry m here) wide_is) few notes a.deep wider space in
      subst (λ (x : List ℕ). IsArena (with_children here ((entry_at mid here).children ++ number ∷ []) mid) later next number x more
      × (seen (with_children here ((entry_at mid here).children ++ number ∷ []) mid) later number ≡ edited_root (adding m) z)) (sym e)
      (all.0, all.1 ∙ ap (edited_root (adding m)) (sym z_is))

  -- or let go again
  pub put_back : (mid : List Entry) (m : MoveParts) (place next number : ℕ) (more : ℕ) → length mid ≤ 1000001
      → IsPut nodes free (leaf_entry m here place) mid next number → room ≤ more
      → IsArena (with_parent number next mid) noted number here trail more × (seen (with_parent number next mid) noted here ≡ z)
  put_back mid m place next number more few put wider =
      let on = put a.game a.freed a.laid in
      let new = with_parent number next mid in
      let gone = let_go_laid mid next number m a.game on.later Empty on.laid (ap (λ (x : Entry). x.children) on.is) tt in
      let now : IsArena new noted number here trail more = record {
        game = a.game;
        freed = Tree number m Empty on.later;
        path = a.path;
        laid = gone;
        ways = a.ways;
        here_is = a.here_is;
        trail_is = a.trail_is;
        deep = omega (arith, a.deep, wider);
        few = omega (arith, length-set mid number (record (entry_at mid number) { parent = next }), few);
      } in
      (now, seen_is new noted number here trail more now ∙ sym z_is)

  pub few_nodes : length nodes ≤ 1000001
  few_nodes = a.few

  -- ---- notes

  -- notes that are the same change nothing
  pub same_notes : (later : ℕ → Noted) → ((j : ℕ) → later j ≡ noted j) → IsArena nodes later free here trail room × (seen nodes later here ≡ z)
  same_notes later same =
      let e : later ≡ noted = λ i j. same j i in
      subst (λ (x : ℕ → Noted). IsArena nodes x free here trail room × (seen nodes x here ≡ z)) (sym e) (a, v)

  pub annotated_now : (later : ℕ → Noted) (nag : ℕ) → 0 < length z.path → IsNotedAt noted later here (record { nags = (noted here).nags ++ nag ∷ []; comment = (noted here).comment })
      → IsArena nodes later free here trail room × (seen nodes later here ≡ edited_root (annotating nag) z)
  unfolding stays
  annotated_now later nag h notes =
      let there = subst (λ (x : ℕ). IsNotedAt noted later x (record { nags = (noted x).nags ++ nag ∷ []; comment = (noted x).comment })) a.here_is notes in
      let on = annotated_game noted later nag a.path a.game (omega (arith, ap length long, h)) a.ways once_used there in
      let now = stays later room (omega (arith, a.deep, ap height on.0, height_node (annotated nag) a.path (plain noted a.game) (height_annotated nag))) in (
        now,
        seen_is nodes later free here trail room now
            ∙ (λ j. record { root = record { move = no_move; nags = (on.1 j).nags; comment = (on.1 j).comment; below = on.0 j }; path = a.path })
            ∙ ap (edited_root (annotating nag)) (sym z_is),
      )

  pub unannotated_now : (later : ℕ → Noted) → 0 < length z.path → IsNotedAt noted later here (record { nags = []; comment = (noted here).comment })
      → IsArena nodes later free here trail room × (seen nodes later here ≡ edited_root unannotating z)
  unfolding stays
  unannotated_now later h notes =
      let there = subst (λ (x : ℕ). IsNotedAt noted later x (record { nags = []; comment = (noted x).comment })) a.here_is notes in
      let on = unannotated_game noted later a.path a.game (omega (arith, ap length long, h)) a.ways once_used there in
      let now = stays later room (omega (arith, a.deep, ap height on.0, height_node unannotated a.path (plain noted a.game) height_unannotated)) in (
        now,
        seen_is nodes later free here trail room now
            ∙ (λ j. record { root = record { move = no_move; nags = (on.1 j).nags; comment = (on.1 j).comment; below = on.0 j }; path = a.path })
            ∙ ap (edited_root unannotating) (sym z_is),
      )

  pub commented_now : (later : ℕ → Noted) (text : List ℕ) → IsNotedAt noted later here (record { nags = (noted here).nags; comment = text })
      → IsArena nodes later free here trail room × (seen nodes later here ≡ commented_root text z)
  unfolding stays
  commented_now later text notes =
      let there = subst (λ (x : ℕ). IsNotedAt noted later x (record { nags = (noted x).nags; comment = text })) a.here_is notes in
      let on = commented_standing noted later text a.path a.game a.ways once_used there in
      let now =
      stays later room (omega (arith, a.deep, ap (λ (x : Rooted). height x.root.below) on, height_comment text a.path (standing noted a.game a.path).root)) in
      (now, seen_is nodes later free here trail room now ∙ on ∙ ap (commented_root text) (sym z_is))

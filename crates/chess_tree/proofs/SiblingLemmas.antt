-- The children of a node, looked at by their places.
use Rattle.std.proofs.Common.{◌≡◌, Bool, true, false, None, Some, ℕ, zero, suc, ◌+◌, get_or, slice_get, ◌<◌, ◌≤◌, refl, sym, ap, ◌∙◌, subst, List, [], ◌∷◌, length, inl, inr, arith}
use Rattle.std.specs.Prelude.{option_map}
use Rattle.std.proofs.lemmas.Bool.{cases_lt}
use Rattle.std.proofs.lemmas.Option.{none-some, slice_get-get_or, slice_get_past}
use Rattle.chess_types.specs.board.MoveParts.{MoveParts}
use Rattle.chess_tree.specs.Forest.{child}
use Rattle.chess_tree.specs.GameTree.{find, is_move}
use Rattle.chess_tree.specs.steps.Rooted.{Held, Noted, shown}
use Rattle.chess_tree.specs.steps.Entries.{Entry, entry_at}
use Rattle.chess_tree.specs.steps.Grove.{Grove, Empty, Tree, tally, times, size, wide, node_number, under, grove_move, plain, under_at, number_at, Ways}
use Rattle.chess_tree.specs.steps.Laid.{Laid, Same}
use Rattle.chess_tree.specs.steps.Siblings.{AreThere, Owner}
use Rattle.chess_tree.proofs.FindLemmas.{find_here, find_none, find_on, from}
use Rattle.chess_tree.proofs.GroveLemmas.{wide_plain}
use Rattle.chess_tree.proofs.TimesLemmas.{length_numbers, number_get, tally_same, times_at, times_number, times_under, wide_le}
use Rattle.chess_tree.proofs.LinkLemmas.{linked_one}
use Rattle.chess_tree.proofs.SeenLemmas.{once_at_most}
use Rattle.chess_tree.proofs.LaidLemmas.{in_range, linked_at}

size_below : (k : ℕ) (g : Grove) → size (under k g) ≤ size g
size_below k Empty = omega arith
size_below zero (Tree i m below next) = omega arith
size_below (suc k) (Tree i m below next) = omega (arith, size_below k next)

size_under : (path : List ℕ) (g : Grove) → size (under_at path g) ≤ size g
size_under [] g = omega arith
size_under (k ∷ path) g = omega (arith, size_under path (under k g), size_below k g)

-- the nodes below the one at a path
pub owner_at : (nodes : List Entry) (free : ℕ) (game freed spare : Grove) (path : List ℕ) → Laid nodes free game freed spare → Ways path game
    → Owner nodes (number_at path 0 game) (under_at path game)
owner_at nodes free game freed spare path k ways =
    let most = once_at_most nodes free game freed spare k in
    let on = linked_at (entry_at nodes) path 0 game ways k.root k.linked in
    record {
      own = on.0;
      linked = on.1;
      once = λ j. omega (arith, most j, times_under j path game);
      no_root = omega (arith, most 0, tally_same 0, times_under 0 path game);
      range = λ j h. in_range nodes free game freed spare k j (omega (arith, h, times_under j path game));
      few = omega (arith, k.all, size_under path game);
      there = in_range nodes free game freed spare k (number_at path 0 game) (omega (arith, times_at path 0 game ways));
    }

-- ---- one of the children

some_number : (a b : ℕ) → Some a ≡ Some b → a ≡ b
some_number a b e = cc

pub count_is : (nodes : List Entry) (at : ℕ) (g : Grove) → Owner nodes at g → length (entry_at nodes at).children ≡ wide g
count_is nodes at g o = ap length o.own ∙ length_numbers g

pub few_children : (nodes : List Entry) (at : ℕ) (g : Grove) → Owner nodes at g → length (entry_at nodes at).children < length nodes
few_children nodes at g o = omega (arith, count_is nodes at g o, wide_le g, o.few)

pub child_in : (nodes : List Entry) (at k c : ℕ) (g : Grove) → Owner nodes at g → Some c ≡ slice_get (entry_at nodes at).children k → k < wide g
child_in nodes at k c g o e =
    elim (cases_lt k (wide g)) [ inl w ↦ w | inr w ↦ absurd (none-some c (sym (e ∙ slice_get_past (entry_at nodes at).children k (omega (arith, w, count_is nodes at g o))))) ]

pub child_number : (nodes : List Entry) (at k c : ℕ) (g : Grove) → Owner nodes at g → Some c ≡ slice_get (entry_at nodes at).children k → c ≡ node_number 0 k g
child_number nodes at k c g o e =
    let short = child_in nodes at k c g o e in
    some_number c (node_number 0 k g)
    (e ∙ slice_get-get_or (entry_at nodes at).children k 0 (omega (arith, short, count_is nodes at g o)) ∙ ap (λ (x : List ℕ). Some (get_or x k 0)) o.own ∙ ap (λ (x : ℕ). Some x) (number_get 0 k g))

pub child_past : (nodes : List Entry) (at k : ℕ) (g : Grove) → Owner nodes at g → None ≡ slice_get (entry_at nodes at).children k → wide g ≤ k
child_past nodes at k g o e =
    elim (cases_lt k (wide g)) [
      | inl w ↦ absurd (none-some (get_or (entry_at nodes at).children k 0) (e ∙ slice_get-get_or (entry_at nodes at).children k 0 (omega (arith, w, count_is nodes at g o))))
      | inr w ↦ w
    ]

pub number_range : (nodes : List Entry) (at k : ℕ) (g : Grove) → Owner nodes at g → k < wide g → node_number 0 k g < length nodes
number_range nodes at k g o h = o.range (node_number 0 k g) (omega (arith, tally_same (node_number 0 k g), times_number 0 k g (node_number 0 k g) h))

pub child_range : (nodes : List Entry) (at k c : ℕ) (g : Grove) → Owner nodes at g → Some c ≡ slice_get (entry_at nodes at).children k → c < length nodes
child_range nodes at k c g o e = omega (arith, child_number nodes at k c g o e, number_range nodes at k g o (child_in nodes at k c g o e))

pub are_there : (nodes : List Entry) (at : ℕ) (g : Grove) → Owner nodes at g → AreThere nodes at
are_there nodes at g o k h =
    let is : get_or (entry_at nodes at).children k 0 ≡ node_number 0 k g = ap (λ (x : List ℕ). get_or x k 0) o.own ∙ number_get 0 k g in
    omega (arith, is, number_range nodes at k g o (omega (arith, h, count_is nodes at g o)))

-- and isn't the root
pub number_some : (k : ℕ) (g : Grove) → times 0 g ≡ 0 → k < wide g → 0 < node_number 0 k g
number_some k g none h =
    elim (cases_lt 0 (node_number 0 k g)) [
      | inl w ↦ w
      | inr w ↦ (let is : node_number 0 k g ≡ 0 = omega (arith, w) in let one : tally 0 (node_number 0 k g) ≡ 1 = subst (λ (y : ℕ). tally 0 y ≡ 1) (sym is) (tally_same 0) in absurd (omega (arith, one, none, times_number 0 k g 0 h)))
    ]

pub child_some : (nodes : List Entry) (at k c : ℕ) (g : Grove) → Owner nodes at g → Some c ≡ slice_get (entry_at nodes at).children k → 0 < c
child_some nodes at k c g o e = omega (arith, child_number nodes at k c g o e, number_some k g o.no_root (child_in nodes at k c g o e))

-- its move
pub child_move : (nodes : List Entry) (at k c : ℕ) (g : Grove) → Owner nodes at g → Some c ≡ slice_get (entry_at nodes at).children k → (entry_at nodes c).played ≡ grove_move k g
child_move nodes at k c g o e =
    ap (λ (x : ℕ). (entry_at nodes x).played) (child_number nodes at k c g o e) ∙ (linked_one Same (entry_at nodes) at 0 0 k g (child_in nodes at k c g o e) o.linked).0.owned.move_is

-- ---- a child as the forest shows it

-- one of those side by side, as it is kept
abbrev pub held_in : (ℕ → Noted) → ℕ → Grove → Held
held_in noted k g = record { move = grove_move k g; nags = (noted (node_number 0 k g)).nags; comment = (noted (node_number 0 k g)).comment; below = plain noted (under k g) }

pub child_plain : (noted : ℕ → Noted) (k : ℕ) (g : Grove) → k < wide g → child k (plain noted g) ≡ Some (shown (held_in noted k g))
child_plain noted k Empty h = absurd (omega (arith, h))
child_plain noted zero (Tree i m below next) h = refl
child_plain noted (suc k) (Tree i m below next) h = child_plain noted k next (omega (arith, h))

pub child_none : (noted : ℕ → Noted) (k : ℕ) (g : Grove) → wide g ≤ k → child k (plain noted g) ≡ None
child_none noted k Empty h = refl
child_none noted zero (Tree i m below next) h = absurd (omega (arith, h))
child_none noted (suc k) (Tree i m below next) h = child_none noted k next (omega (arith, h))

-- ---- the first child with a move

-- how far the children are without it
abbrev pub Without : MoveParts → ℕ → Grove → (ℕ → Noted) → Type 0
Without m k g noted = find m (plain noted g) ≡ option_map (λ x. k + x) (find m (from k (plain noted g)))

same_test : (m n p : MoveParts) (b : Bool) → is_move m p ≡ b → m ≡ n → is_move n p ≡ b
same_test m n p b is e = ap (λ (x : MoveParts). is_move x p) (sym e) ∙ is

pub found_here : (nodes : List Entry) (at k c : ℕ) (m : MoveParts) (g : Grove) (noted : ℕ → Noted) → Owner nodes at g → Some c ≡ slice_get (entry_at nodes at).children k → Without m k g noted
    → is_move (entry_at nodes c).played m ≡ true → Some k ≡ find m (plain noted g)
found_here nodes at k c m g noted o e w is =
    find_here m (plain noted g) k (held_in noted k g) w (child_plain noted k g (child_in nodes at k c g o e)) (same_test _ _ m true is (child_move nodes at k c g o e))

pub found_on : (nodes : List Entry) (at k c : ℕ) (m : MoveParts) (g : Grove) (noted : ℕ → Noted) → Owner nodes at g → Some c ≡ slice_get (entry_at nodes at).children k → Without m k g noted
    → is_move (entry_at nodes c).played m ≡ false → Without m (k + 1) g noted
found_on nodes at k c m g noted o e w is =
    find_on m (plain noted g) k (held_in noted k g) w (child_plain noted k g (child_in nodes at k c g o e)) (same_test _ _ m false is (child_move nodes at k c g o e))

pub found_none : (m : MoveParts) (k : ℕ) (g : Grove) (noted : ℕ → Noted) → Without m k g noted → wide g ≤ k → None ≡ find m (plain noted g)
found_none m k g noted w h = find_none m (plain noted g) k w (omega (arith, h, wide_plain noted g))

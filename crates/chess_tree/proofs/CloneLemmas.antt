-- A copy of a tree: its lists have the same items, so it is seen as the same nodes.
use Rattle.std.proofs.Common.{◌≡◌, ℕ, ◌<◌, ◌≤◌, zero, suc, List, [], ◌∷◌, length, refl, ap, sym, subst, ◌∙◌, arith}
use Rattle.std.specs.List.{AllZip}
use Rattle.smallvec.specs.SmallVec.{SmallVec}
use Rattle.chess_tree.specs.declared.arena.slot.Slot.{Slot}
use Rattle.chess_tree.specs.declared.arena.slot.Below.{Below}
use Rattle.chess_tree.specs.declared.arena.slot.Below.TheVariants.{Nothing, One, Listed}
use Rattle.chess_tree.specs.steps.Rooted.{Noted}
use Rattle.chess_tree.specs.steps.Notes.{noted_in}
use Rattle.chess_tree.specs.steps.Entries.{Entry}
use Rattle.chess_tree.specs.steps.Laid.{IsArena, seen}
use Rattle.chess_tree.specs.steps.Slots.{listed, children_in, entry_of, entries_of, IsKept}

-- a copy
abbrev pub Copied : {X : Type 0} → X → X → Type 0
Copied x y = y ≡ x

-- the items of a copied list are the same
pub copied : {X : Type 0} (xs ys : List X) → AllZip Copied xs ys → ys ≡ xs
copied [] [] h = refl
copied [] (y ∷ ys) h = absurd h
copied (x ∷ xs) [] h = absurd h
copied (x ∷ xs) (y ∷ ys) h = ap (λ z. z ∷ ys) h.0 ∙ ap (λ zs. x ∷ zs) (copied xs ys h.1)

-- a copied list of numbers
abbrev pub SameNumbers : SmallVec ℕ → SmallVec ℕ → Type 0
SameNumbers v w = AllZip Copied v.items w.items

pub lists_copied : (xs ys : List (SmallVec ℕ)) → AllZip SameNumbers xs ys → (t : ℕ) → listed ys t ≡ listed xs t
lists_copied [] [] h t = refl
lists_copied [] (y ∷ ys) h t = absurd h
lists_copied (x ∷ xs) [] h t = absurd h
lists_copied (x ∷ xs) (y ∷ ys) h zero = copied x.items y.items h.0
lists_copied (x ∷ xs) (y ∷ ys) h (suc t) = lists_copied xs ys h.1 t

lists_long : (xs ys : List (SmallVec ℕ)) → AllZip SameNumbers xs ys → length ys ≡ length xs
lists_long [] [] h = refl
lists_long [] (y ∷ ys) h = absurd h
lists_long (x ∷ xs) [] h = absurd h
lists_long (x ∷ xs) (y ∷ ys) h = ap suc (lists_long xs ys h.1)

entry_copied : (xs ys : List (SmallVec ℕ)) → AllZip SameNumbers xs ys → (s : Slot) → entry_of ys s ≡ entry_of xs s
entry_copied xs ys h s = ap (λ (numbers : List ℕ). record { played = s.played; parent = s.parent; place = s.place; children = numbers }) (below s.below) where
  below : (b : Below) → children_in ys b ≡ children_in xs b
  below Nothing = refl
  below (One child) = refl
  below (Listed t) = lists_copied xs ys h t

all_copied : (xs ys : List (SmallVec ℕ)) → AllZip SameNumbers xs ys → (slots : List Slot) → entries_of ys slots ≡ entries_of xs slots
all_copied xs ys h [] = refl
all_copied xs ys h (s ∷ slots) = ap (λ e. e ∷ entries_of ys slots) (entry_copied xs ys h s) ∙ ap (λ es. entry_of xs s ∷ es) (all_copied xs ys h slots)

-- copied slots with copied lists are the same nodes
pub entries_copied : (slots slots' : List Slot) (xs ys : List (SmallVec ℕ)) → AllZip Copied slots slots' → AllZip SameNumbers xs ys →
    entries_of ys slots' ≡ entries_of xs slots
entries_copied slots slots' xs ys s h = ap (entries_of ys) (copied slots slots' s) ∙ all_copied xs ys h slots

-- and each list is still one node's
pub kept_copied : (slots slots' : List Slot) (xs ys : List (SmallVec ℕ)) → AllZip Copied slots slots' → AllZip SameNumbers xs ys →
    IsKept slots xs → IsKept slots' ys
kept_copied slots slots' xs ys s h kept = subst (λ (ss : List Slot). IsKept ss ys) (sym (copied slots slots' s)) (record {
  there = λ i t is. subst (λ (n : ℕ). t < n) (sym (lists_long xs ys h)) (kept.there i t is);
  apart = kept.apart;
  each = lists_long xs ys h ∙ kept.each;
  few = kept.few;
})

-- the notes of a copied list are the same
pub notes_copied : (notes notes' : List Noted) → AllZip Copied notes notes' → (j : ℕ) → noted_in notes' j ≡ noted_in notes j
notes_copied notes notes' h j = ap (λ (x : List Noted). noted_in x j) (copied notes notes' h)

-- a copied arena has the same nodes and notes, and no less room
pub arena_copied : (nodes nodes' : List Entry) (noted noted' : ℕ → Noted) (free here : ℕ) (trail trail' : List ℕ) (room room' : ℕ) →
    nodes' ≡ nodes → ((j : ℕ) → noted' j ≡ noted j) → trail' ≡ trail → room ≤ room' → IsArena nodes noted free here trail room →
    IsArena nodes' noted' free here trail' room'
arena_copied nodes nodes' noted noted' free here trail trail' room room' n e t more arena =
    let same : noted ≡ noted' = (λ i j. sym (e j) i) in
    subst (λ (ns : List Entry). IsArena ns noted' free here trail' room') (sym n)
    (subst (λ (f : ℕ → Noted). IsArena nodes f free here trail' room') same
    (subst (λ (ts : List ℕ). IsArena nodes noted free here ts room') (sym t)
    (record {
      game = arena.game;
      freed = arena.freed;
      path = arena.path;
      laid = arena.laid;
      ways = arena.ways;
      here_is = arena.here_is;
      trail_is = arena.trail_is;
      deep = omega (arith, arena.deep, more);
      few = arena.few;
    })))

-- and is seen as the same tree
pub seen_copied : (nodes nodes' : List Entry) (noted noted' : ℕ → Noted) (here : ℕ) → nodes' ≡ nodes → ((j : ℕ) → noted' j ≡ noted j) →
    seen nodes' noted' here ≡ seen nodes noted here
seen_copied nodes nodes' noted noted' here n e = (λ i. seen (n i) (λ j. e j i) here)

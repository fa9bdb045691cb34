-- Nodes as slots, with lists of children beside them.
--   slot_at       the slot with a number; leaf_slot, one without children
--   listed        the numbers in a list
--   children_in   a node's children
--   entry_of, entries_of     a node, and all of them
--   has_list, lists_had      how many of one node and of some have a list
--   IsKept        each list is one node's
use Rattle.std.specs.Prelude.{◌≡◌, ℕ, ◌+◌, ◌<◌, ◌≤◌, List, [], ◌∷◌, length, map}
use Rattle.std.proofs.Common.{get_or}
use Rattle.smallvec.specs.SmallVec.{SmallVec}
use Rattle.chess_types.specs.board.MoveParts.{MoveParts}
use Rattle.chess_tree.specs.declared.arena.slot.Slot.{Slot}
use Rattle.chess_tree.specs.declared.arena.slot.Below.{Below}
use Rattle.chess_tree.specs.declared.arena.slot.Below.TheVariants.{Nothing, One, Listed}
use Rattle.chess_tree.specs.steps.Grove.{no_move}
use Rattle.chess_tree.specs.steps.Entries.{Entry}

-- a slot that nothing uses
abbrev pub blank : Slot
blank = record { played = no_move; parent = 0; place = 0; below = Nothing }

-- the slot of a node without children
abbrev pub leaf_slot : MoveParts → ℕ → ℕ → Slot
leaf_slot played parent place = record { played = played; parent = parent; place = place; below = Nothing }

-- the slot of a number
abbrev pub slot_at : List Slot → ℕ → Slot
slot_at slots i = get_or slots i blank

-- a list without numbers
abbrev pub no_list : SmallVec ℕ
no_list = record { items = []; capacity = 2 }

-- the numbers of a list
abbrev pub listed : List (SmallVec ℕ) → ℕ → List ℕ
listed lists t = (get_or lists t no_list).items

-- the children that a slot has
abbrev pub children_in : List (SmallVec ℕ) → Below → List ℕ
children_in lists Nothing = []
children_in lists (One child) = child ∷ []
children_in lists (Listed t) = listed lists t

-- a slot as a node
abbrev pub entry_of : List (SmallVec ℕ) → Slot → Entry
entry_of lists s = record { played = s.played; parent = s.parent; place = s.place; children = children_in lists s.below }

-- slots as nodes
abbrev pub entries_of : List (SmallVec ℕ) → List Slot → List Entry
entries_of lists slots = map (entry_of lists) slots

-- how many nodes have a list
abbrev pub has_list : Below → ℕ
has_list (Listed t) = 1
has_list _ = 0

-- how many slots have a list
abbrev pub lists_had : List Slot → ℕ
lists_had [] = 0
lists_had (s ∷ slots) = has_list s.below + lists_had slots

-- each slot's list is there, and is no other slot's
pub record IsKept (slots : List Slot) (lists : List (SmallVec ℕ)) : Type 0 where
  pub there : (i t : ℕ) → (slot_at slots i).below ≡ Listed t → t < length lists
  pub apart : (i j t : ℕ) → (slot_at slots i).below ≡ Listed t → (slot_at slots j).below ≡ Listed t → i ≡ j
  pub each : length lists ≡ lists_had slots
  pub few : length slots ≤ 1000001

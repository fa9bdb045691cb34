-- The nodes of a tree as a list, and what is written into it.
--   Entry        a node: its move, its parent's number, its place among the parent's children, and its own children's numbers
--   entry_at     the node with a number
--   leaf_entry   a node without children
--   with_children, with_parent, with_place     a node with other children, another parent, another place
--   moved_first  one of the children before the others
use Rattle.std.specs.Prelude.{ℕ, List, [], ◌∷◌, refl, remove}
use Rattle.std.specs.Coded.{Coded, code_by, coded×, coded_ℕ, coded_list}
use Rattle.std.proofs.Common.{get_or, set}
use Rattle.chess_types.specs.board.MoveParts.{MoveParts}
use Rattle.chess_types.specs.steps.LineCode.{coded_move}
use Rattle.chess_tree.specs.steps.Grove.{no_move}

-- a node: its move, its parent, its place among its siblings, and its children
pub record Entry : Type 0 where
  pub played : MoveParts
  pub parent : ℕ
  pub place : ℕ
  pub children : List ℕ

-- a node as a tuple
abbrev pub coded_entry : Coded Entry
coded_entry =
    code_by (MoveParts × (ℕ × (ℕ × List ℕ))) (coded× coded_move (coded× coded_ℕ (coded× coded_ℕ (coded_list coded_ℕ))))
    (λ n. (n.played, (n.parent, (n.place, n.children))))
    (λ p. record { played = p.0; parent = p.1.0; place = p.1.1.0; children = p.1.1.1 })
    (λ _. refl)

-- a node without children
abbrev pub leaf_entry : MoveParts → ℕ → ℕ → Entry
leaf_entry played parent place = record { played = played; parent = parent; place = place; children = [] }

-- a node that says nothing
abbrev pub no_entry : Entry
no_entry = leaf_entry no_move 0 0

-- the node with a number
abbrev pub entry_at : List Entry → ℕ → Entry
entry_at nodes i = get_or nodes i no_entry

-- its children are others
abbrev pub with_children : ℕ → List ℕ → List Entry → List Entry
with_children i children nodes = set nodes i (record (entry_at nodes i) { children = children })

-- the nodes with another parent for one
abbrev pub with_parent : ℕ → ℕ → List Entry → List Entry
with_parent i parent nodes = set nodes i (record (entry_at nodes i) { parent = parent })

-- the nodes with another place for one
abbrev pub with_place : ℕ → ℕ → List Entry → List Entry
with_place i place nodes = set nodes i (record (entry_at nodes i) { place = place })

-- the item at that place before the others
abbrev pub moved_first : ℕ → List ℕ → List ℕ
moved_first place children = get_or children place 0 ∷ remove children place

use Rattle.chess_tree.specs.declared.arena.slot.Slot.{Slot}
use Rattle.std.proofs.Common.{◌-◌, length, slice_get, take, ℕ, List}
use Rattle.chess_tree.specs.steps.Entries.{with_children}
use Rattle.chess_tree.proofs.arena.nodes.Nodes.pop_child.Goals as goal
use Rattle.std.proofs.Common.{sym, ap, ◌∙◌, arith}
use Rattle.chess_tree.specs.declared.arena.slot.Below.TheVariants.{Nothing, One}
use Rattle.chess_tree.proofs.SlotLemmas.{children_are, children_now, kept_bare, list_now, list_read, list_there}
use Rattle.chess_tree.specs.steps.Slots.{has_list}

pub invariant_of-self : goal.invariant_of-self
invariant_of-self g c = kept_bare c.args.at c.self.invariant c.self.view_is c.requires c.index.result c.index-in-One.result c.index-2.result.now _ (c.index-2.ensures, c.index.ensures) c.index-in-One.ensures (ap has_list (sym c.below.ensures ∙ c.in-One.is)) (ap (λ (s : Slot). has_list s.below) c.set_below.ensures)

pub index_mut-children-requires : goal.index_mut-children-requires
index_mut-children-requires g c = omega (arith, list_there c.args.at c.self.invariant c.self.view_is c.requires c.index.result c.in-Listed.list c.index-2.result.now (c.index-2.ensures, c.index.ensures) (sym c.below.ensures ∙ c.in-Listed.is), c.self.inside.lists.ok.0)

pub returns-in-One-clause-nodes : goal.returns-in-One-clause-nodes
returns-in-One-clause-nodes g c =
    let children = children_are c.args.at c.self.invariant c.self.view_is c.requires c.index.result c.index-2.result.now (One c.in-One.child) (c.index-2.ensures, c.index.ensures) (sym c.below.ensures ∙ c.in-One.is) in
    rw c.set_below.ensures (children_now c.args.at c.self.invariant c.self.view_is c.requires c.index-in-One.result c.index-in-One.result c.index_mut.result.now Nothing _ (c.index_mut.ensures.value, c.index-in-One.ensures) c.index-in-One.ensures
    (ap (λ (x : List ℕ). take (length x - 1) x) (sym children)))

pub returns-in-Listed-clause-child : goal.returns-in-Listed-clause-child
returns-in-Listed-clause-child g c =
    let children = list_read c.args.at c.self.invariant c.self.view_is c.requires c.index.result c.in-Listed.list c.index-2.result.now c.index_mut-children.result.now (c.index-2.ensures, c.index.ensures) (sym c.below.ensures ∙ c.in-Listed.is) c.index_mut-children.ensures.value in
    c.pop-child.ensures.value ∙ ap (λ (x : List ℕ). slice_get x (length x - 1)) children

pub returns-in-Listed-clause-nodes : goal.returns-in-Listed-clause-nodes
returns-in-Listed-clause-nodes g c =
    let children = list_read c.args.at c.self.invariant c.self.view_is c.requires c.index.result c.in-Listed.list c.index-2.result.now c.index_mut-children.result.now (c.index-2.ensures, c.index.ensures) (sym c.below.ensures ∙ c.in-Listed.is) c.index_mut-children.ensures.value in
    list_now c.args.at c.self.invariant c.self.view_is c.requires c.index.result c.in-Listed.list c.index-2.result.now c.give_back.new.children (c.index-2.ensures, c.index.ensures) (sym c.below.ensures ∙ c.in-Listed.is)
    ∙ ap (λ (x : List ℕ). with_children c.args.at x c.args.self.now) (c.give_back.ensures ∙ c.pop-child.ensures.rest ∙ ap (λ (x : List ℕ). take (length x - 1) x) children)

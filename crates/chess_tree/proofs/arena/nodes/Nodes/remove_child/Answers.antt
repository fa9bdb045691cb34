use Rattle.chess_tree.specs.declared.arena.slot.Slot.{Slot}
use Rattle.std.proofs.Common.{◌≡◌, ◌∷◌, [], length, remove, ℕ, List}
use Rattle.chess_tree.specs.steps.Entries.{with_children}
use Rattle.chess_tree.proofs.arena.nodes.Nodes.remove_child.Goals as goal
use Rattle.std.proofs.Common.{sym, ap, ◌∙◌, arith}
use Rattle.chess_tree.specs.declared.arena.slot.Below.TheVariants.{Nothing, One}
use Rattle.chess_tree.specs.steps.Slots.{has_list}
use Rattle.chess_tree.proofs.SlotLemmas.{children_are, children_now, kept_bare, list_now, list_read}

pub invariant_of-self : goal.invariant_of-self
invariant_of-self g c = kept_bare c.args.at c.self.invariant c.self.view_is c.requires.there c.index.result c.index-in-One.result c.index-2.result.now _ (c.index-2.ensures, c.index.ensures) c.index-in-One.ensures (ap has_list (sym c.below.ensures ∙ c.in-One.is)) (ap (λ (s : Slot). has_list s.below) c.set_below.ensures)

pub returns-in-One : goal.returns-in-One
returns-in-One g c =
    let children = children_are c.args.at c.self.invariant c.self.view_is c.requires.there c.index.result c.index-2.result.now (One c.in-One.field-0) (c.index-2.ensures, c.index.ensures) (sym c.below.ensures ∙ c.in-One.is) in
    let first : c.args.place ≡ 0 = omega (arith, c.requires.child, ap length children) in
    rw c.set_below.ensures (children_now c.args.at c.self.invariant c.self.view_is c.requires.there c.index-in-One.result c.index-in-One.result c.index_mut.result.now Nothing _ (c.index_mut.ensures.value, c.index-in-One.ensures) c.index-in-One.ensures
    (ap (remove (c.in-One.field-0 ∷ [])) (sym first) ∙ ap (λ (x : List ℕ). remove x c.args.place) (sym children)))

pub returns-in-Listed : goal.returns-in-Listed
returns-in-Listed g c =
    let children = list_read c.args.at c.self.invariant c.self.view_is c.requires.there c.index.result c.in-Listed.list c.index-2.result.now c.index_mut-children.result.now (c.index-2.ensures, c.index.ensures) (sym c.below.ensures ∙ c.in-Listed.is) c.index_mut-children.ensures.value in
    list_now c.args.at c.self.invariant c.self.view_is c.requires.there c.index.result c.in-Listed.list c.index-2.result.now c.give_back.new.children (c.index-2.ensures, c.index.ensures) (sym c.below.ensures ∙ c.in-Listed.is)
    ∙ ap (λ (x : List ℕ). with_children c.args.at x c.args.self.now) (c.give_back.ensures ∙ c.remove-taken.ensures.items ∙ ap (λ (x : List ℕ). remove x c.args.place) children)

use Rattle.chess_tree.specs.declared.arena.slot.Slot.{Slot}
use Rattle.std.proofs.Common.{rules, ◌≡◌, ◌++◌, ◌∷◌, [], set, ℕ, List}
use Rattle.chess_tree.specs.steps.Entries.{with_children}
use Rattle.chess_tree.proofs.arena.nodes.Nodes.push_child.Goals as goal
use Rattle.std.proofs.Common.{sym, ap, ◌∙◌, arith}
use Rattle.chess_tree.specs.declared.arena.slot.Below.TheVariants.{Nothing, One}
use Rattle.chess_tree.proofs.SlotLemmas.{children_are, children_now, few_lists, kept_bare, list_now, list_read, list_there, new_list_kept, new_list_now}
use Rattle.std.proofs.Common.{subst}
use Rattle.smallvec.specs.SmallVec.{SmallVec}
use Rattle.chess_tree.specs.steps.Slots.{IsKept, has_list, entries_of}

pub invariant_of-self : goal.invariant_of-self
invariant_of-self g c = kept_bare c.args.at c.self.invariant c.self.view_is c.requires c.index.result c.index-in-Nothing.result c.index-2.result.now _ (c.index-2.ensures, c.index.ensures) c.index-in-Nothing.ensures (ap has_list (sym c.below.ensures ∙ c.in-Nothing.is)) (ap (λ (s : Slot). has_list s.below) c.set_below.ensures)

pub overflow_cast-list : goal.overflow_cast-list
overflow_cast-list g c = omega (arith, c.len-list.ensures, c.self.inside.lists.ok.0, few_lists c.self.inside.slots.items c.self.inside.lists.items c.self.invariant)

pub invariant_of-self-in-One : goal.invariant_of-self-in-One
invariant_of-self-in-One g c =
    let lists : c.push-in-One-2.new.self.items ≡ c.self.inside.lists.items ++ c.push-in-One.new.self ∷ [] = search rules in
    subst (λ (x : List (SmallVec ℕ)). IsKept (set c.self.inside.slots.items c.index-in-One.result c.set_below-in-One.new.self) x) (sym lists)
    (new_list_kept c.args.at c.self.invariant c.self.view_is c.requires c.index.result c.index-in-One.result c.len-list.result c.index-2.result.now _ c.push-in-One.new.self (c.index-2.ensures, c.index.ensures) c.index-in-One.ensures (c.len-list.ensures ∙ c.self.inside.lists.ok.0) (ap has_list (sym c.below.ensures ∙ c.in-One.is)) (ap (λ (s : Slot). s.below) c.set_below-in-One.ensures))

pub index_mut-requires-in-Listed : goal.index_mut-requires-in-Listed
index_mut-requires-in-Listed g c = omega (arith, list_there c.args.at c.self.invariant c.self.view_is c.requires c.index.result c.in-Listed.list c.index-2.result.now (c.index-2.ensures, c.index.ensures) (sym c.below.ensures ∙ c.in-Listed.is), c.self.inside.lists.ok.0)

pub returns-in-Nothing-clause-ok : goal.returns-in-Nothing-clause-ok
returns-in-Nothing-clause-ok g c =
    let children = children_are c.args.at c.self.invariant c.self.view_is c.requires c.index.result c.index-2.result.now Nothing (c.index-2.ensures, c.index.ensures) (sym c.below.ensures ∙ c.in-Nothing.is) in
    rw c.set_below.ensures (children_now c.args.at c.self.invariant c.self.view_is c.requires c.index-in-Nothing.result c.index-in-Nothing.result c.index_mut.result.now (One c.args.child) _ (c.index_mut.ensures.value, c.index-in-Nothing.ensures) c.index-in-Nothing.ensures
    (ap (λ (x : List ℕ). x ++ c.args.child ∷ []) (sym children)))

pub returns-in_ok-push-in-One-3-clause-ok : goal.returns-in_ok-push-in-One-3-clause-ok
returns-in_ok-push-in-One-3-clause-ok g c =
    let lists : c.push-in-One-2.new.self.items ≡ c.self.inside.lists.items ++ c.push-in-One.new.self ∷ [] = search rules in
    let items : c.push-in-One.new.self.items ≡ (c.in-One.first ∷ []) ++ c.args.child ∷ [] = search rules in
    let children = children_are c.args.at c.self.invariant c.self.view_is c.requires c.index.result c.index-2.result.now (One c.in-One.first) (c.index-2.ensures, c.index.ensures) (sym c.below.ensures ∙ c.in-One.is) in
    ap (λ (x : List (SmallVec ℕ)). entries_of x (set c.self.inside.slots.items c.index-in-One.result c.set_below-in-One.new.self)) lists
    ∙ ap (λ (x : Slot). entries_of (c.self.inside.lists.items ++ c.push-in-One.new.self ∷ []) (set c.self.inside.slots.items c.index-in-One.result x)) c.set_below-in-One.ensures
    ∙ new_list_now c.args.at c.self.invariant c.self.view_is c.requires c.index-in-One.result c.index-in-One.result c.len-list.result c.index_mut-in-One.result.now c.push-in-One.new.self (c.index_mut-in-One.ensures.value, c.index-in-One.ensures) c.index-in-One.ensures (c.len-list.ensures ∙ c.self.inside.lists.ok.0)
    ∙ ap (λ (x : List ℕ). with_children c.args.at x c.args.self.now) (items ∙ ap (λ (x : List ℕ). x ++ c.args.child ∷ []) (sym children))

pub returns-in_ok-push-in-Listed-clause-ok : goal.returns-in_ok-push-in-Listed-clause-ok
returns-in_ok-push-in-Listed-clause-ok g c =
    let children = list_read c.args.at c.self.invariant c.self.view_is c.requires c.index.result c.in-Listed.list c.index-2.result.now c.index_mut-in-Listed.result.now (c.index-2.ensures, c.index.ensures) (sym c.below.ensures ∙ c.in-Listed.is) c.index_mut-in-Listed.ensures.value in
    list_now c.args.at c.self.invariant c.self.view_is c.requires c.index.result c.in-Listed.list c.index-2.result.now c.push-in-Listed.new.self (c.index-2.ensures, c.index.ensures) (sym c.below.ensures ∙ c.in-Listed.is)
    ∙ ap (λ (x : List ℕ). with_children c.args.at x c.args.self.now) (c.in_ok-push-in-Listed.ensures.ok ∙ ap (λ (x : List ℕ). x ++ c.args.child ∷ []) children)

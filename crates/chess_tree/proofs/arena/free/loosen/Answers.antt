use Rattle.std.proofs.Common.{◌≡◌, ◌+◌, ◌-◌, List, length, length-set, take, refl, sym, ap, subst, ◌∙◌, arith}
use Rattle.chess_tree.specs.steps.Entries.{Entry, entry_at, with_children, with_parent}
use Rattle.chess_tree.specs.steps.Freed.{IsLoosened}
use Rattle.chess_tree.proofs.FreedLemmas.{Loosening, loosened, loosened_far, loosening_child, loosening_on, loosening_range, loosening_start, no_last, none_taken}
use Rattle.chess_tree.proofs.arena.free.loosen.Goals as goal

pub loop-passed-init : goal.loop-passed-init
loop-passed-init g c = (loosening_start _ _ c.requires.some, refl)

pub pop_child-requires : goal.pop_child-requires
pop_child-requires g c = loosening_range _ _ _ _ _ c.requires.pool c.loop-passed.invariant.0

pub returns-in_default-clause-nodes : goal.returns-in_default-clause-nodes
returns-in_default-clause-nodes g c =
    let bare = no_last _ (sym c.in_default.is ∙ c.pop_child.ensures.child) in
    let same = c.pop_child.ensures.nodes ∙ none_taken _ _ bare in
    subst (λ (x : List Entry). IsLoosened c.args.nodes.now c.args.first x c.loop-passed.free) (sym same) (loosened _ _ _ _ _ c.loop-passed.invariant.0 bare)

pub returns-in_default-clause-length : goal.returns-in_default-clause-length
returns-in_default-clause-length g c =
    let bare = no_last _ (sym c.in_default.is ∙ c.pop_child.ensures.child) in
    ap length (c.pop_child.ensures.nodes ∙ none_taken _ _ bare) ∙ c.loop-passed.invariant.1

pub returns-in_default-clause-there : goal.returns-in_default-clause-there
returns-in_default-clause-there g c = omega (arith, loosening_range _ _ _ _ _ c.requires.pool c.loop-passed.invariant.0, c.loop-passed.invariant.1)

pub returns-in_default-clause-bare : goal.returns-in_default-clause-bare
returns-in_default-clause-bare g c =
    let bare = no_last _ (sym c.in_default.is ∙ c.pop_child.ensures.child) in
    ap (λ (x : List Entry). (entry_at x c.loop-passed.free).children) (c.pop_child.ensures.nodes ∙ none_taken _ _ bare) ∙ bare

pub set_parent-requires : goal.set_parent-requires
set_parent-requires g c =
    let left = take (length (entry_at c.loop-passed.nodes c.loop-passed.free).children - 1) (entry_at c.loop-passed.nodes c.loop-passed.free).children in
    omega (
      arith,
      loosening_child _ _ _ _ _ c.in-Some.child c.requires.pool c.loop-passed.invariant.0 (sym c.in-Some.is ∙ c.pop_child.ensures.child),
      ap length c.pop_child.ensures.nodes,
      length-set c.loop-passed.nodes c.loop-passed.free (record (entry_at c.loop-passed.nodes c.loop-passed.free) { children = left }),
    )

pub loop-passed-preserved : goal.loop-passed-preserved
loop-passed-preserved g c =
    let left = take (length (entry_at c.loop-passed.nodes c.loop-passed.free).children - 1) (entry_at c.loop-passed.nodes c.loop-passed.free).children in
    let mid = with_children c.loop-passed.free left c.loop-passed.nodes in
    let new : c.set_parent.new.self ≡ with_parent c.in-Some.child c.loop-passed.free mid = c.set_parent.ensures ∙ ap (with_parent c.in-Some.child c.loop-passed.free) c.pop_child.ensures.nodes in
    let on = loosening_on _ _ _ _ _ c.in-Some.child c.requires.pool c.loop-passed.invariant.0 (sym c.in-Some.is ∙ c.pop_child.ensures.child) in (
      subst (λ (x : List Entry). Loosening c.args.nodes.now c.args.first x c.in-Some.child (c.loop-passed._passed + 1)) (sym new) on,
      ap length new ∙ length-set mid c.in-Some.child (record (entry_at mid c.in-Some.child) { parent = c.loop-passed.free })
          ∙ length-set c.loop-passed.nodes c.loop-passed.free (record (entry_at c.loop-passed.nodes c.loop-passed.free) { children = left }) ∙ c.loop-passed.invariant.1,
    )

pub returns-clause-nodes : goal.returns-clause-nodes
returns-clause-nodes g c = loosened_far _ _ _ _ _ c.loop-passed.invariant.0 (omega (arith, c.loop-passed-test.false, c.len-passed-end.ensures.length))

pub returns-clause-length : goal.returns-clause-length
returns-clause-length g c = c.loop-passed.invariant.1

pub returns-clause-there : goal.returns-clause-there
returns-clause-there g c = omega (arith, loosening_range _ _ _ _ _ c.requires.pool c.loop-passed.invariant.0, c.loop-passed.invariant.1)

pub returns-clause-bare : goal.returns-clause-bare
returns-clause-bare g c = (loosened_far _ _ _ _ _ c.loop-passed.invariant.0 (omega (arith, c.loop-passed-test.false, c.len-passed-end.ensures.length)) c.requires.pool.0 c.requires.pool.1 c.requires.pool.2).bare

use Rattle.std.proofs.Common.{ℕ, List, length, sym, subst, ap, ◌∙◌, arith}
use Rattle.std.specs.Prelude.{vec_capacity}
use Rattle.chess_tree.specs.steps.Entries.{Entry, with_parent}
use Rattle.chess_tree.specs.steps.Laid.{IsArena, seen}
use Rattle.chess_tree.specs.steps.Notes.{noted_in}
use Rattle.chess_tree.specs.steps.Writes.{detached}
use Rattle.chess_tree.proofs.PlacedLemmas.{detached_length}
use Rattle.chess_tree.proofs.ArenaCalls.{deleted_now, has_child, here_range, some_trail}
use Rattle.chess_tree.proofs.arena.Arena.remove.Goals as goal

pub seat-at-requires : goal.seat-at-requires
seat-at-requires g c = here_range _ _ _ _ _ _ _ c.self.invariant c.self.view_is

pub detach-requires : goal.detach-requires
detach-requires g c = has_child _ _ _ _ _ _ _ c.self.invariant c.self.view_is c.seat-at.result.0 c.seat-at.result.1 c.requires c.seat-at.ensures.parent c.seat-at.ensures.place

pub let_go-requires : goal.let_go-requires
let_go-requires g c = omega (arith, here_range _ _ _ _ _ _ _ c.self.invariant c.self.view_is, ap length c.detach.ensures, detached_length c.seat-at.result.0 c.seat-at.result.1 c.self.inside.nodes)

pub unreachable-requires : goal.unreachable-requires
unreachable-requires g c = omega (arith, some_trail _ _ _ _ _ _ _ c.self.invariant c.self.view_is c.requires, c.in_default.ensures.cases.0)

pub invariant_of-self : goal.invariant_of-self
invariant_of-self g c =
    let nodes = c.let_go.ensures.nodes ∙ ap (with_parent c.self.inside.here c.self.inside.free) c.detach.ensures in
    let on = deleted_now _ _ _ _ _ _ _ c.self.invariant c.self.view_is c.seat-at.result.0 c.seat-at.result.1 _ _ _ c.requires c.seat-at.ensures.parent c.seat-at.ensures.place c.in-Some.ensures.items c.in-Some.ensures.capacity in
    let left = with_parent c.self.inside.here c.self.inside.free (detached c.seat-at.result.0 c.seat-at.result.1 c.self.inside.nodes) in
    subst (λ (x : List Entry). IsArena x (noted_in c.self.inside.notes.items) c.let_go.new.free c.seat-at.result.0 c.pop.new.self.items (vec_capacity c.pop.new.self)) (sym nodes)
    (subst (λ (x : ℕ). IsArena left (noted_in c.self.inside.notes.items) x c.seat-at.result.0 c.pop.new.self.items (vec_capacity c.pop.new.self)) (sym c.let_go.ensures.free) on.0)

pub returns : goal.returns
returns g c =
    let nodes = c.let_go.ensures.nodes ∙ ap (with_parent c.self.inside.here c.self.inside.free) c.detach.ensures in
    let on = deleted_now _ _ _ _ _ _ _ c.self.invariant c.self.view_is c.seat-at.result.0 c.seat-at.result.1 _ _ _ c.requires c.seat-at.ensures.parent c.seat-at.ensures.place c.in-Some.ensures.items c.in-Some.ensures.capacity in
    ap (λ (x : List Entry). seen x (noted_in c.self.inside.notes.items) c.seat-at.result.0) nodes ∙ on.1

use Rattle.std.proofs.Common.{List, sym, subst, ap, ◌∙◌}
use Rattle.std.specs.Prelude.{vec_capacity}
use Rattle.chess_tree.specs.steps.Entries.{Entry}
use Rattle.chess_tree.specs.steps.Laid.{IsArena, seen}
use Rattle.chess_tree.specs.steps.Notes.{noted_in}
use Rattle.chess_tree.proofs.ArenaCalls.{has_child, here_range, promoted_now}
use Rattle.chess_tree.proofs.arena.Arena.promote.Goals as goal

pub seat-at-requires : goal.seat-at-requires
seat-at-requires g c = here_range _ _ _ _ _ _ _ c.self.invariant c.self.view_is

pub lift-requires : goal.lift-requires
lift-requires g c = has_child _ _ _ _ _ _ _ c.self.invariant c.self.view_is c.seat-at.result.0 c.seat-at.result.1 c.requires c.seat-at.ensures.parent c.seat-at.ensures.place

pub invariant_of-self : goal.invariant_of-self
invariant_of-self g c =
    subst (λ (x : List Entry). IsArena x (noted_in c.self.inside.notes.items) c.self.inside.free c.self.inside.here c.self.inside.trail.items (vec_capacity c.self.inside.trail)) (sym c.lift.ensures)
    (promoted_now _ _ _ _ _ _ _ c.self.invariant c.self.view_is c.seat-at.result.0 c.seat-at.result.1 c.requires c.seat-at.ensures.parent c.seat-at.ensures.place).0

pub returns : goal.returns
returns g c =
    ap (λ (x : List Entry). seen x (noted_in c.self.inside.notes.items) c.self.inside.here) c.lift.ensures
    ∙ (promoted_now _ _ _ _ _ _ _ c.self.invariant c.self.view_is c.seat-at.result.0 c.seat-at.result.1 c.requires c.seat-at.ensures.parent c.seat-at.ensures.place).1

use Rattle.std.proofs.Common.{◌∙◌, arith}
use Rattle.std.proofs.lemmas.Grind.{common_steps}
use Rattle.std.specs.Prelude.{vec_capacity}
use Rattle.chess_tree.specs.steps.Notes.{noted_in}
use Rattle.chess_tree.proofs.CloneLemmas.{arena_copied, notes_copied, seen_copied}
use Rattle.chess_tree.proofs.arena.ArenaClone.clone.Goals as goal

pub invariant_of-result : goal.invariant_of-result
invariant_of-result g c =
    arena_copied c.self.inside.nodes c.in_ok-clone.field-0 (noted_in c.self.inside.notes.items) (noted_in c.in_ok-clone-2.field-0.items) c.self.inside.free c.self.inside.here
    c.self.inside.trail.items c.extend_from_slice.new.self.items (vec_capacity c.self.inside.trail) (vec_capacity c.extend_from_slice.new.self)
    c.in_ok-clone.ensures.cases (notes_copied c.self.inside.notes.items c.in_ok-clone-2.field-0.items c.in_ok-clone-2.ensures.cases.0)
    (grind (arith, common_steps)) (grind (arith, common_steps)) c.self.invariant

pub returns : goal.returns
returns g c = record {
  cases = seen_copied c.self.inside.nodes c.in_ok-clone.field-0 (noted_in c.self.inside.notes.items) (noted_in c.in_ok-clone-2.field-0.items) c.self.inside.here
      c.in_ok-clone.ensures.cases (notes_copied c.self.inside.notes.items c.in_ok-clone-2.field-0.items c.in_ok-clone-2.ensures.cases.0) ∙ c.self.view_is;
}

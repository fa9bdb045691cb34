use Rattle.std.proofs.Common.{ℕ, sym, subst}
use Rattle.std.specs.Prelude.{vec_capacity}
use Rattle.chess_tree.specs.steps.Laid.{IsArena}
use Rattle.chess_tree.specs.steps.Notes.{noted_in}
use Rattle.chess_tree.proofs.ArenaCalls.{new_arena}
use Rattle.chess_tree.proofs.arena.Arena.new.Goals as goal

pub invariant_of-result : goal.invariant_of-result
invariant_of-result g c =
    subst (λ (x : ℕ). IsArena c.in_ok-new.field-0 (noted_in c.new-2.result.items) x c.root-2.result c.new-3.result.items (vec_capacity c.new-3.result)) (sym c.root.ensures)
    (subst (λ (x : ℕ). IsArena c.in_ok-new.field-0 (noted_in c.new-2.result.items) 0 x c.new-3.result.items (vec_capacity c.new-3.result)) (sym c.root-2.ensures)
    (new_arena c.in_ok-new.field-0 (noted_in c.new-2.result.items) c.new-3.result.items (vec_capacity c.new-3.result) c.in_ok-new.ensures c.new-3.ensures.items))

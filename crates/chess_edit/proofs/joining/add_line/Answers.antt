use Rattle.std.proofs.Common.{ℕ, [], ◌∷◌, ◌++◌, ap, ◌∙◌}
use Rattle.chess_edit.proofs.JoinLemmas.{begun_undone, place_deep, place_is, unless}
use Rattle.chess_edit.proofs.joining.add_line.Goals as goal

pub take_out-requires : goal.take_out-requires
take_out-requires g c =
    record {
      below = place_deep c.as_slice.result.now c.args.tree.now.path c.child_count.result (place_is c.as_slice.result.now c.push.new.self.items c.in_ok-place.place.items c.args.tree.now.path c.child_count.result c.as_slice.ensures.value c.in-Ok.ensures.items c.in_ok-place.ensures.ok);
    }

pub returns-in-Err-clause-err : goal.returns-in-Err-clause-err
returns-in-Err-clause-err g c =
    begun_undone c.args.tree.now c.grow.new.tree c.take_out.new.tree c.as_slice.result.now c.in-Err.ensures.err c.position-start.ensures.game.cursor
    (place_is c.as_slice.result.now c.push.new.self.items c.in_ok-place.place.items c.args.tree.now.path c.child_count.result c.as_slice.ensures.value c.in-Ok.ensures.items c.in_ok-place.ensures.ok
    ∙ ap (λ (k : ℕ). c.args.tree.now.path ++ k ∷ []) c.child_count.ensures)
    c.take_out.ensures.taken c.take_out.ensures.none

pub returns-clause-ok : goal.returns-clause-ok
returns-clause-ok g c = unless c.grow.result c.in_default-grow.not-Err c.grow.ensures.ok

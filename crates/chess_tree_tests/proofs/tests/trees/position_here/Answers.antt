use Rattle.std.proofs.Common.{sym, ◌∙◌, arith}
use Rattle.chess_tree_tests.proofs.ReplayLemmas.{place_is, replayed, replayed_all}
use Rattle.chess_tree_tests.proofs.tests.trees.position_here.Goals as goal

pub loop-ply-preserved : goal.loop-ply-preserved
loop-ply-preserved g c =
    let place = place_is c.args.tree.now.path c.loop-ply.ply c.expect-place.result (sym c.path_at.ensures ∙ c.expect-place.ensures) in
    let child = sym c.expect-node.ensures ∙ c.child.ensures in
    let all = replayed c.args.tree.now.tree.start c.loop-ply.live.position c.make_on.new.live.position c.args.tree.now.path c.loop-ply.ply c.args.tree.now.tree.below c.loop-ply.node c.expect-node.result c.expect-played.result
    c.loop-ply.invariant.here c.loop-ply.invariant.below place.0 (rw place.1 at child) (sym c.expect-played.ensures ∙ c.move_at.ensures) c.make_on.ensures in
    record { here = all.0; below = all.1 }

pub returns : goal.returns
returns g c = replayed_all c.args.tree.now c.loop-ply.ply _ c.loop-ply.invariant.here (omega (arith, c.loop-ply-test.false, c.depth-ply-end.ensures))

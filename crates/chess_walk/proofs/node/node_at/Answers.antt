use Rattle.std.proofs.Common.{sym, ◌∙◌}
use Rattle.chess_tree.specs.GameTree.{root_node}
use Rattle.std.proofs.Common.{slice_index_or}
use Rattle.chess_walk.proofs.NodeLemmas.{gone_down, lower}
use Rattle.chess_walk.proofs.node.node_at.Goals as goal

pub loop-place-preserved : goal.loop-place-preserved
loop-place-preserved g c =
    let path = c.args.path.now in
    let i = c.loop-place.place-index in
    let is = sym c.in_ok-node.was ∙ c.child.ensures in
    record {
      leads = gone_down path i c.loop-place.node (root_node c.args.tree.now.tree) c.in_ok-node.node c.loop-place-test.true c.loop-place.invariant.leads is;
      high = lower (slice_index_or path i 0) c.loop-place.node.below c.in_ok-node.node is c.loop-place.invariant.high;
    }

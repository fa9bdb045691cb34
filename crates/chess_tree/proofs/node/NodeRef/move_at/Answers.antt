use Rattle.chess_tree.proofs.ViewLemmas.{viewed_range}
use Rattle.chess_tree.proofs.node.NodeRef.move_at.Goals as goal

pub played-requires : goal.played-requires
played-requires g c = viewed_range _ _ c.self.invariant

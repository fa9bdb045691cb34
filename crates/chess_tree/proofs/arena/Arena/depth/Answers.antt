use Rattle.std.proofs.Common.{arith}
use Rattle.chess_tree.proofs.ArenaCalls.{depth_is}
use Rattle.chess_tree.proofs.arena.Arena.depth.Goals as goal

pub returns : goal.returns
returns g c = omega (arith, c.len.ensures, c.self.inside.trail.ok.0, depth_is _ _ _ _ _ _ _ c.self.invariant c.self.view_is)

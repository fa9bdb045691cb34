use Rattle.std.proofs.Common.{arith}
use Rattle.chess_tree.proofs.ArenaCalls.{backed, here_range, some_trail}
use Rattle.chess_tree.proofs.arena.Arena.up.Goals as goal

pub unreachable-requires : goal.unreachable-requires
unreachable-requires g c = omega (arith, some_trail _ _ _ _ _ _ _ c.self.invariant c.self.view_is c.requires, c.in_default.ensures.cases.0)

pub parent-self-inside-requires : goal.parent-self-inside-requires
parent-self-inside-requires g c = here_range _ _ _ _ _ _ _ c.self.invariant c.self.view_is

pub invariant_of-self : goal.invariant_of-self
invariant_of-self g c = (backed _ _ _ _ _ _ _ c.self.invariant c.self.view_is _ _ _ _ c.requires c.parent-self-inside.ensures c.in-Some.ensures.items c.in-Some.ensures.capacity).0

pub returns : goal.returns
returns g c = (backed _ _ _ _ _ _ _ c.self.invariant c.self.view_is _ _ _ _ c.requires c.parent-self-inside.ensures c.in-Some.ensures.items c.in-Some.ensures.capacity).1

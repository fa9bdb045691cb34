use Rattle.chess_tree.proofs.ArenaCalls.{finds, here_few, is_owner}
use Rattle.chess_tree.proofs.arena.Arena.find.Goals as goal

pub find-requires-clause-owner : goal.find-requires-clause-owner
find-requires-clause-owner g c = is_owner _ _ _ _ _ _ _ c.self.invariant c.self.view_is

pub find-requires-clause-few : goal.find-requires-clause-few
find-requires-clause-few g c = here_few _ _ _ _ _ _ _ c.self.invariant c.self.view_is

pub returns : goal.returns
returns g c = finds _ _ _ _ _ _ _ c.self.invariant c.self.view_is c.args.played c.find.ensures

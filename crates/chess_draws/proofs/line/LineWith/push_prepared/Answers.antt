use Rattle.std.proofs.Common.{◌<◌, length, arith}
use Rattle.chess_draws.proofs.LineLemmas.{can_step, here_ends, here_last, none_looked, all_made, played_after, held_pushed, suffices_there}
use Rattle.chess_draws.proofs.line.LineWith.push_prepared.Goals as goal

pub step-ply-requires : goal.step-ply-requires
step-ply-requires g c = can_step c.self.invariant c.self.view_is c.args.m c.requires.legal

pub invariant_of-self : goal.invariant_of-self
invariant_of-self g c =
    let none = none_looked c.self.invariant c.self.view_is c.requires.none in
    let few : length c.self.inside.plies.items < 20000 = omega (arith, all_made c.self.invariant c.self.view_is c.requires.none, c.requires.few) in
    held_pushed c.self.invariant none few c.step-ply.result c.step-ply.ensures.ply c.step-ply.new.live c.step-ply.new.here
    (played_after c.self.inside.live.position c.step-ply.result c.args.m c.step-ply.ensures.played c.step-ply.ensures.position) c.step-ply.ensures.here
    c.push_reserved.new.self.items c.push_reserved.ensures.items

pub returns-clause-at_least : goal.returns-clause-at_least
returns-clause-at_least g c =
    suffices_there g.F.Follower.suffices (here_last c.self.invariant.line c.self.view_is) (here_ends (invariant_of-self g c).line) c.step-ply.ensures.at_least

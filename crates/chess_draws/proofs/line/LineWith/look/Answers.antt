use Rattle.std.proofs.Common.{◌≡◌, ◌<◌, length, ap, arith}
use Rattle.chess_draws.specs.LineParts.{LineParts}
use Rattle.chess_draws.proofs.LineLemmas.{can_step, here_ends, here_last, played_after, held_looked, suffices_there}
use Rattle.chess_draws.proofs.line.LineWith.look.Goals as goal

pub step-ply-requires : goal.step-ply-requires
step-ply-requires g c = can_step c.self.invariant c.self.view_is c.args.m c.requires.legal

pub invariant_of-self : goal.invariant_of-self
invariant_of-self g c =
    let count : length c.self.inside.looked.items ≡ c.args.self.now.looked = ap (λ (l : LineParts). l.looked) c.self.view_is in
    let few : length c.self.inside.looked.items < 16 = omega (arith, count, c.requires.few) in
    held_looked c.self.invariant few c.step-ply.result c.step-ply.ensures.ply c.step-ply.new.live c.step-ply.new.here
    (played_after c.self.inside.live.position c.step-ply.result c.args.m c.step-ply.ensures.played c.step-ply.ensures.position) c.step-ply.ensures.here
    c.push.new.self.items c.push.ensures.items

pub returns-clause-at_least : goal.returns-clause-at_least
returns-clause-at_least g c =
    suffices_there g.F.Follower.suffices (here_last c.self.invariant.line c.self.view_is) (here_ends (invariant_of-self g c).line) c.step-ply.ensures.at_least

use Rattle.std.proofs.Common.{◌++◌, refl, sym, ap, ◌∙◌}
use Rattle.chess_draws.specs.LineParts.{LineParts}
use Rattle.chess_draws.proofs.LineLemmas.{here_ends, here_last, left_unlooked, held_unlooked, line_of, line_looked, unextended, suffices_there}
use Rattle.chess_draws.proofs.line.LineWith.unlook.Goals as goal

pub step_back-requires : goal.step_back-requires
step_back-requires g c = record { fits = (left_unlooked c.self.invariant c.pop.new.self.items c.in-Some.ply c.in-Some.ensures.items).fits }

pub invariant_of-self : goal.invariant_of-self
invariant_of-self g c =
    let left = left_unlooked c.self.invariant c.pop.new.self.items c.in-Some.ply c.in-Some.ensures.items in
    held_unlooked c.self.invariant c.pop.new.self.items c.in-Some.ply c.in-Some.ensures.items c.step_back.new.live c.step_back.new.here
    (c.step_back.ensures.position _ left.before) c.step_back.ensures.here

pub returns-clause-line : goal.returns-clause-line
returns-clause-line g c = λ before m is.
    let rest = line_of c.self.inside.root (c.self.inside.plies.items ++ c.pop.new.self.items) in
    unextended rest before c.in-Some.ply.past.played m
    (sym (line_looked c.self.inside.root c.self.inside.plies.items c.pop.new.self.items c.self.inside.looked.items c.in-Some.ply
    c.in-Some.ply.past.played refl c.in-Some.ensures.items)
    ∙ ap (λ (l : LineParts). l.line) c.self.view_is ∙ is)

pub returns-clause-at_least : goal.returns-clause-at_least
returns-clause-at_least g c =
    suffices_there g.F.Follower.suffices (here_last c.self.invariant.line c.self.view_is) (here_ends (invariant_of-self g c).line) c.step_back.ensures.at_least

use Rattle.std.proofs.Common.{◌≡◌, nat_lt, ap, ◌∙◌}
use Rattle.chess_types.specs.board.Position.{PositionParts}
use Rattle.chess_types.specs.board.Lines.{last}
use Rattle.chess_draws.proofs.FarLemmas.{far_from_draw, below}
use Rattle.chess_draws.proofs.LineLemmas.{here_last}
use Rattle.chess_draws.proofs.line.LineWith.is_far_from_draw.Given.{Over}
use Rattle.chess_draws.proofs.line.LineWith.is_far_from_draw.Goals.{After-behind-self}
use Rattle.chess_draws.proofs.line.LineWith.is_far_from_draw.Goals as goal

clock : (g : Over) (c : After-behind-self g) → c.behind-self.inside.clock ≡ (last c.args.self.now.line).clock
clock g c = ap (λ (s : PositionParts). s.clock) (c.behind-self.view_is ∙ c.position.ensures.value ∙ here_last c.self.invariant.line c.self.view_is)

pub returns-then-claims-clause-value : goal.returns-then-claims-clause-value
returns-then-claims-clause-value g c = rw c.if-claims.true (ap (λ n. nat_lt n 3) (clock g (goal.at.returns-then-claims-clause-value g c).After-behind-self))

pub returns-then-claims-clause-far : goal.returns-then-claims-clause-far
returns-then-claims-clause-far g c low m from to legal =
    far_from_draw c.self.invariant.line c.self.view_is c.args.claims (rw c.if-claims.true (below 3 _ _ (clock g (goal.at.returns-then-claims-clause-far g c).After-behind-self) low)) m from to legal

pub returns-else-claims-clause-value : goal.returns-else-claims-clause-value
returns-else-claims-clause-value g c = rw c.if-claims.false (ap (λ n. nat_lt n 7) (clock g (goal.at.returns-else-claims-clause-value g c).After-behind-self))

pub returns-else-claims-clause-far : goal.returns-else-claims-clause-far
returns-else-claims-clause-far g c low m from to legal =
    far_from_draw c.self.invariant.line c.self.view_is c.args.claims (rw c.if-claims.false (below 7 _ _ (clock g (goal.at.returns-else-claims-clause-far g c).After-behind-self) low)) m from to legal

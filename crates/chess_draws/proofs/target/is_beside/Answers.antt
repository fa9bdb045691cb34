use Rattle.std.proofs.Common.{sym, ap, subst, ◌∙◌}
use Rattle.std.proofs.lemmas.Bool.{and_left}
use Rattle.chess_types.specs.board.Position.{PositionParts, IsSetup}
use Rattle.chess_draws.proofs.TargetLemmas.{no_target, not_taken, are_beside, target_inside}
use Rattle.chess_draws.proofs.target.is_beside.Goals as goal

pub returns-in_default : goal.returns-in_default
returns-in_default c = λ _. no_target c.args.setup.now (ap (λ (s : PositionParts). s.target) (sym c.setup.view_is) ∙ c.in_default.is)

pub origins-left-requires : goal.origins-left-requires
origins-left-requires c =
    target_inside c.args.setup.now c.in-Some.target (subst (λ (s : PositionParts). IsSetup s) c.setup.view_is c.setup.invariant)
    (ap (λ (s : PositionParts). s.target) (sym c.setup.view_is) ∙ c.in-Some.is)

pub returns-else-is_taker : goal.returns-else-is_taker
returns-else-is_taker c = λ no_right.
    let p = c.args.setup.now in
    let known = are_beside p _ c.in-Some.target c.origins-left.result.0 c.origins-left.result.1 c.setup.view_is
    (subst (λ (s : PositionParts). IsSetup s) c.setup.view_is c.setup.invariant) c.in-Some.is c.origins-left.ensures.white c.origins-left.ensures.black in
    not_taken p c.in-Some.target c.origins-left.result.0 c.origins-left.result.1 known
    (and_left _ _ (sym c.is_taker.ensures ∙ c.if-is_taker.false))
    (and_left _ _ (sym c.is_taker-else-is_taker.ensures ∙ no_right))

use Rattle.std.proofs.Common.{sym, ap, ◌∙◌, inl, inr}
use Rattle.chess_types.specs.board.Position.{PositionParts}
use Rattle.chess_draws.proofs.TargetLemmas.{no_target, is_taken, one_taken, not_taken, are_beside, target_inside}
use Rattle.chess_draws.proofs.target.counting_target.Goals as goal

pub returns-in_err-target-clause-value : goal.returns-in_err-target-clause-value
returns-in_err-target-clause-value g c =
    c.from_residual.ensures
    ∙ sym (no_target c.args.live.now.position (ap (λ (s : PositionParts). s.target) (sym (c.setup.view_is ∙ c.position-setup.ensures.value)) ∙ c.in_err-target.was))

pub origins-left-requires : goal.origins-left-requires
origins-left-requires g c =
    target_inside c.args.live.now.position c.in_ok-target.target c.position-setup.ensures.setup
    (ap (λ (s : PositionParts). s.target) (sym (c.setup.view_is ∙ c.position-setup.ensures.value)) ∙ c.in_ok-target.was)

pub returns-then-is_taken_from-clause-value : goal.returns-then-is_taken_from-clause-value
returns-then-is_taken_from-clause-value g c =
    let p = c.args.live.now.position in
    let known = are_beside p _ c.in_ok-target.target c.origins-left.result.0 c.origins-left.result.1 (c.setup.view_is ∙ c.position-setup.ensures.value)
    c.position-setup.ensures.setup c.in_ok-target.was c.origins-left.ensures.white c.origins-left.ensures.black in
    sym (one_taken p _ _ _ known (inl (sym c.if-is_taken_from.ensures.value)))

pub returns-then-is_taken_from-2-clause-value : goal.returns-then-is_taken_from-2-clause-value
returns-then-is_taken_from-2-clause-value g c =
    let p = c.args.live.now.position in
    let known = are_beside p _ c.in_ok-target.target c.origins-left.result.0 c.origins-left.result.1 (c.setup.view_is ∙ c.position-setup.ensures.value)
    c.position-setup.ensures.setup c.in_ok-target.was c.origins-left.ensures.white c.origins-left.ensures.black in
    let same = ap (λ (s : PositionParts). is_taken s c.origins-left.result.1 c.in_ok-target.target) c.is_taken_from.ensures.position in
    sym (one_taken p _ _ _ known (inr (sym same ∙ sym c.if-is_taken_from-2.ensures.value)))

pub returns-clause-value : goal.returns-clause-value
returns-clause-value g c =
    let p = c.args.live.now.position in
    let known = are_beside p _ c.in_ok-target.target c.origins-left.result.0 c.origins-left.result.1 (c.setup.view_is ∙ c.position-setup.ensures.value)
    c.position-setup.ensures.setup c.in_ok-target.was c.origins-left.ensures.white c.origins-left.ensures.black in
    let same = ap (λ (s : PositionParts). is_taken s c.origins-left.result.1 c.in_ok-target.target) c.is_taken_from.ensures.position in
    sym (not_taken p _ _ _ known (sym c.if-is_taken_from.ensures.value) (sym same ∙ sym c.if-is_taken_from-2.ensures.value))

use Rattle.std.proofs.Common.{ap, ◌∙◌, None}
use Rattle.chess_types.specs.board.Position.{PositionParts}
use Rattle.chess_moves.specs.steps.Targets.{move_to}
use Rattle.chess_moves.proofs.Still.{still_first}
use Rattle.chess_moves.proofs.SafeSteps.{found_first, found_next, found_all}
use Rattle.chess_san.specs.Writing.{is_rival}
use Rattle.chess_san.specs.steps.Origins.{legal_and}
use Rattle.chess_san.proofs.writer.rivals_among.Goals as goal

pub loop-other-init : goal.loop-other-init
loop-other-init g c =
    let found = found_first (λ a. legal_and (is_rival c.args.live.now.position c.args.kind c.args.from c.args.to) c.args.live.now.position (move_to a c.args.to None)) c.empty-others.ensures
    (c.into_iter-other-iterator.ensures.into_iter_gives ∙ c.iter-other-items.ensures.value) in
    record { can = tt; finite = tt; still = still_first; found = found }

pub loop-other-preserved : goal.loop-other-preserved
loop-other-preserved g c =
    let found = found_next c.loop-other.invariant.found c.insert_if.ensures
    (c.is_legal_rival-passes.ensures.value ∙ ap (λ (p : PositionParts). legal_and (is_rival p c.args.kind c.args.from c.args.to) p (move_to c.in-Some.other c.args.to None)) c.loop-other.invariant.still.position)
    c.in-Some.ensures.steps in
    record { can = tt; finite = tt; still = record { position = c.is_legal_rival-passes.ensures.position ∙ c.loop-other.invariant.still.position; words = c.is_legal_rival-passes.ensures.words ∙ c.loop-other.invariant.still.words }; found = found }

pub returns-clause-rivals : goal.returns-clause-rivals
returns-clause-rivals g c = found_all c.loop-other.invariant.found c.in-None.ensures.steps.0

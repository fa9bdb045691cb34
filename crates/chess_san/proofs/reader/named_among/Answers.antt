use Rattle.std.proofs.Common.{ap, ◌∙◌}
use Rattle.chess_types.specs.board.Position.{PositionParts}
use Rattle.chess_moves.specs.steps.Targets.{move_to}
use Rattle.chess_moves.proofs.Still.{still_first}
use Rattle.chess_moves.proofs.SafeSteps.{found_first, found_next, found_all}
use Rattle.chess_san.specs.Naming.{names}
use Rattle.chess_san.specs.steps.Origins.{legal_and}
use Rattle.chess_san.proofs.reader.named_among.Goals as goal

pub loop-from-init : goal.loop-from-init
loop-from-init g c =
    let found = found_first (λ a. legal_and (names c.args.live.now.position c.args.form.now) c.args.live.now.position (move_to a c.args.to c.args.promo)) c.empty-named.ensures
    (c.into_iter-from-iterator.ensures.into_iter_gives ∙ c.iter-from-items.ensures.value) in
    record { can = tt; finite = tt; still = still_first; found = found }

pub loop-from-preserved : goal.loop-from-preserved
loop-from-preserved g c =
    let found = found_next c.loop-from.invariant.found c.insert_if.ensures
    (c.is_named-passes.ensures.value ∙ ap (λ (p : PositionParts). legal_and (names p c.args.form.now) p (move_to c.in-Some.from c.args.to c.args.promo)) c.loop-from.invariant.still.position)
    c.in-Some.ensures.steps in
    record { can = tt; finite = tt; still = record { position = c.is_named-passes.ensures.position ∙ c.loop-from.invariant.still.position; words = c.is_named-passes.ensures.words ∙ c.loop-from.invariant.still.words }; found = found }

pub returns-clause-named : goal.returns-clause-named
returns-clause-named g c = found_all c.loop-from.invariant.found c.in-None.ensures.steps.0

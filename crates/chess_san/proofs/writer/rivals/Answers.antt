use Rattle.std.proofs.Common.{subst}
use Rattle.chess_types.specs.board.Position.{PositionParts}
use Rattle.chess_san.specs.steps.Origins.{Comes}
use Rattle.chess_san.proofs.ListLemmas.{begins_rival}
use Rattle.chess_san.proofs.writer.rivals.Goals as goal

pub returns-clause-rivals : goal.returns-clause-rivals
returns-clause-rivals g c =
    begins_rival c.args.live.now.position c.args.kind c.args.from c.args.to c.origins-all.result c.rivals_among.result
    (subst (λ (p : PositionParts). Comes c.origins-all.result p c.args.kind c.args.to) c.position.ensures.value c.origins-all.ensures) c.rivals_among.ensures.rivals

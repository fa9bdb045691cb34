use Rattle.std.proofs.Common.{subst}
use Rattle.chess_types.specs.board.Position.{PositionParts}
use Rattle.chess_san.specs.steps.Origins.{ComesBy}
use Rattle.chess_san.proofs.ListLemmas.{begins_named}
use Rattle.chess_san.proofs.reader.named_from.Goals as goal

pub returns-clause-named : goal.returns-clause-named
returns-clause-named g c =
    begins_named c.args.live.now.position c.args.form.now c.args.to c.args.promo c.form_origins-all.result c.named_among.result
    (subst (λ (p : PositionParts). ComesBy c.form_origins-all.result p c.args.form.now) c.position.ensures.value c.form_origins-all.ensures) c.named_among.ensures.named

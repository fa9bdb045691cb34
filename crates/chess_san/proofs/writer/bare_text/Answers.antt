use Rattle.std.proofs.Common.{◌∙◌, sym, ap}
use Rattle.chess_types.specs.board.Position.{PositionParts}
use Rattle.chess_san.specs.Writing.{nowhere, text_by}
use Rattle.chess_san.proofs.GlanceLemmas.{pawn_text_is}
use Rattle.chess_san.proofs.writer.bare_text.Goals as goal

pub returns-then-is_pawn-clause-bytes : goal.returns-then-is_pawn-clause-bytes
returns-then-is_pawn-clause-bytes g c =
    c.text_by.ensures.bytes ∙ ap (λ (p : PositionParts). text_by p c.args.man nowhere c.args.m) c.position.ensures.value
    ∙ pawn_text_is c.args.live.now.position c.args.man c.args.m (sym c.is_pawn.ensures ∙ c.if-is_pawn.true)

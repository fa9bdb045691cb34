use Rattle.std.proofs.Common.{is_some, sym, ap, ◌∙◌}
use Rattle.chess_types.specs.board.MoveParts.{MoveParts}
use Rattle.chess_types.specs.board.Position.{PositionParts}
use Rattle.chess_types.specs.board.Pseudo.{pawn_promotion_fits}
use Rattle.chess_play.proofs.NamedWrongly.{pawn_named_wrongly, king_promoted}
use Rattle.chess_play.proofs.pseudo.moves_as.Goals as goal

pub returns-else-pawn_promotion_fits : goal.returns-else-pawn_promotion_fits
returns-else-pawn_promotion_fits g c =
    c.if-pawn_promotion_fits.false
    ∙ sym (pawn_named_wrongly c.args.setup.now c.args.kind c.args.m c.in-Pawn.is
    (ap (λ (p : PositionParts). pawn_promotion_fits p.side c.args.m) (sym c.setup.view_is) ∙ sym c.if-pawn_promotion_fits.ensures))

pub returns-else-is_none : goal.returns-else-is_none
returns-else-is_none g c =
    c.if-is_none.false
    ∙ sym (king_promoted c.args.setup.now c.args.kind c.args.m c.in-King.is
    (ap (λ (m : MoveParts). is_some m.promo) (sym c.m.view_is) ∙ c.if-is_none.ensures))

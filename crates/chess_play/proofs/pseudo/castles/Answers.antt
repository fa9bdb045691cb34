use Rattle.std.proofs.Common.{◌≡◌, true, ◌&&◌, sym, ap, ◌∙◌}
use Rattle.chess_types.specs.board.Position.{PositionParts}
use Rattle.chess_types.specs.board.Pseudo.{castles_to}
use Rattle.chess_play.specs.Castling.{may_castle}
use Rattle.chess_play.proofs.CastlingSquares.{castles_is}
use Rattle.chess_play.proofs.pseudo.castles.Goals as goal

pub returns-then-castles_to : goal.returns-then-castles_to
returns-then-castles_to g c =
    let p : PositionParts = c.args.setup.now in
    let home : castles_to p.side c.args.wing c.args.m ≡ true =
    ap (λ (q : PositionParts). castles_to q.side c.args.wing c.args.m) (sym c.setup.view_is) ∙ sym c.castles_to.ensures ∙ c.if-castles_to.true in
    c.may_castle.ensures ∙ sym (castles_is p c.args.wing c.args.m ∙ ap (λ b. b && may_castle p c.args.wing) home)

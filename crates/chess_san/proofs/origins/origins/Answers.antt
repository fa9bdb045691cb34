use Rattle.std.proofs.Common.{◌∙◌, subst}
use Rattle.chess_types.specs.board.Position.{PositionParts}
use Rattle.chess_san.specs.steps.Origins.{Comes}
use Rattle.chess_san.proofs.OriginLemmas.{king_from}
use Rattle.chess_san.proofs.origins.origins.Goals as goal

pub returns-in-King : goal.returns-in-King
returns-in-King c =
    let p : PositionParts = record { placement = c.setup.inside.placement; side = c.setup.inside.side; rights = c.setup.inside.rights; target = c.setup.inside.target; clock = c.setup.inside.clock; number = c.setup.inside.number } in
    subst (λ (q : PositionParts). Comes c.king.result q c.args.kind c.args.to) c.setup.view_is
    (λ m on is legal there. c.king.ensures m.from ∙ king_from p c.args.kind m legal there c.in-King.is)

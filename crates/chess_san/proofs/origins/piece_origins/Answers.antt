use Rattle.std.proofs.Common.{◌∙◌, ap, subst, sym}
use Rattle.std.specs.FinSet.{intersection}
use Rattle.chess_types.specs.board.Position.{PositionParts}
use Rattle.chess_san.specs.steps.Origins.{Comes}
use Rattle.chess_san.proofs.OriginLemmas.{piece_comes}
use Rattle.chess_san.proofs.origins.piece_origins.Goals as goal

pub returns : goal.returns
returns c =
    let p : PositionParts = record { placement = c.setup.inside.placement; side = c.setup.inside.side; rights = c.setup.inside.rights; target = c.setup.inside.target; clock = c.setup.inside.clock; number = c.setup.inside.number } in
    let is = c.intersection.ensures ∙ ap (λ x. intersection x c.like.result) c.intersection-own.ensures in
    subst (λ (q : PositionParts). Comes c.intersection.result q c.args.kind c.args.to) c.setup.view_is
    (subst (λ x. Comes x p c.args.kind c.args.to) (sym is)
    (piece_comes p c.args.kind c.args.to c.attacks-seen.result c.of.result c.like.result c.requires.pawn c.requires.king c.attacks-seen.ensures c.of.ensures c.like.ensures))

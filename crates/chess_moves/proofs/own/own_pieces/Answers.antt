use Rattle.std.proofs.Common.{subst, ◌∙◌}
use Rattle.chess_types.specs.board.Men.{is_man}
use Rattle.chess_types.specs.board.Position.{PositionParts, man_on}
use Rattle.chess_types.specs.steps.KeptSets.{Gathers}
use Rattle.chess_moves.proofs.own.own_pieces.Goals as goal

pub returns : goal.returns
returns g c =
    subst (λ (q : PositionParts). Gathers c.of_kind.result (λ there. is_man there q.side c.args.kind) (man_on q)) (c.setup.view_is ∙ c.position-setup.ensures.value) c.of_kind.ensures

use Rattle.std.proofs.Common.{ap, ◌∙◌}
use Rattle.std.specs.FinSet.{intersection}
use Rattle.chess_types.proofs.FaultLemmas.{pawn_on_edge, no_pawn_on_edge}
use Rattle.chess_types.proofs.board.faults.has_pawn_on_edge.Goals as goal

pub returns-in-Some : goal.returns-in-Some
returns-in-Some c = λ man_on are.
    pawn_on_edge man_on c.args.kept.now.pawns c.rank.result c.rank-2.result are.pawns c.rank.ensures c.rank-2.ensures c.intersection.result
    (c.intersection.ensures ∙ ap (λ edges. intersection c.args.kept.now.pawns edges) c.union-edges.ensures) c.in-Some.field-0
    c.in-Some.ensures.found.on_board c.in-Some.ensures.found.held

pub returns-in-None : goal.returns-in-None
returns-in-None c = λ man_on are.
    no_pawn_on_edge man_on c.args.kept.now.pawns c.rank.result c.rank-2.result are.pawns c.rank.ensures c.rank-2.ensures c.intersection.result
    (c.intersection.ensures ∙ ap (λ edges. intersection c.args.kept.now.pawns edges) c.union-edges.ensures) c.in-None.ensures.none

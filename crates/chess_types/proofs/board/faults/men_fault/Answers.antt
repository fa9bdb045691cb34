use Rattle.std.proofs.Common.{arith}
use Rattle.std.proofs.lemmas.Grind.{common_steps}
use Rattle.chess_types.specs.board.Board.{man_at}
use Rattle.chess_types.specs.board.Faults.{men_fault}
use Rattle.chess_types.proofs.board.faults.men_fault.Goals as goal

pub returns-then-not-has_one_king_each : goal.returns-then-not-has_one_king_each
unfolding men_fault
returns-then-not-has_one_king_each c = λ board are.
    let kings = c.has_one_king_each.ensures board are in
    grind (arith, common_steps, kings)

pub returns-then-has_pawn_on_edge : goal.returns-then-has_pawn_on_edge
unfolding men_fault
returns-then-has_pawn_on_edge c = λ board are.
    let kings = c.has_one_king_each.ensures board are in
    let pawns = c.has_pawn_on_edge.ensures (man_at board) are in
    grind (arith, common_steps, kings, pawns)

pub returns-then-not-has_at_most_16_each : goal.returns-then-not-has_at_most_16_each
unfolding men_fault
returns-then-not-has_at_most_16_each c = λ board are.
    let kings = c.has_one_king_each.ensures board are in
    let pawns = c.has_pawn_on_edge.ensures (man_at board) are in
    let few = c.has_at_most_16_each.ensures board are in
    grind (arith, common_steps, kings, pawns, few)

pub returns : goal.returns
unfolding men_fault
returns c = λ board are.
    let kings = c.has_one_king_each.ensures board are in
    let pawns = c.has_pawn_on_edge.ensures (man_at board) are in
    let few = c.has_at_most_16_each.ensures board are in
    grind (arith, common_steps, kings, pawns, few)

use Rattle.std.proofs.Common.{arith}
use Rattle.std.proofs.lemmas.Grind.{common_steps}
use Rattle.chess_types.proofs.board.faults.has_one_king_each.Goals as goal

pub returns-then-kings-eq1 : goal.returns-then-kings-eq1
returns-then-kings-eq1 c = λ board are.
    let white = c.kings.ensures board are in
    let black = c.kings-then-kings-eq1.ensures board are in
    grind (arith, common_steps, white, black)

pub returns-else-kings-eq1 : goal.returns-else-kings-eq1
returns-else-kings-eq1 c = λ board are.
    let white = c.kings.ensures board are in
    grind (arith, common_steps, white)

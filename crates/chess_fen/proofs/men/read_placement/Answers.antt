use Rattle.std.proofs.Common.{refl}
use Rattle.chess_fen.proofs.SetupLemmas.{men_read}
use Rattle.chess_fen.proofs.men.read_placement.Goals as goal

pub returns-in-Ok : goal.returns-in-Ok
returns-in-Ok c =
    rw (men_read c.args.field.now c.in_ok-cells.cells (rw c.read_cells.ensures at c.in_ok-cells.ensures.value), c.in-Ok.ensures.good, c.in-Ok.ensures.men) refl

pub returns-in-Err : goal.returns-in-Err
returns-in-Err c =
    rw (men_read c.args.field.now c.in_ok-cells.cells (rw c.read_cells.ensures at c.in_ok-cells.ensures.value), c.in-Err.ensures.fault, c.from.ensures) refl

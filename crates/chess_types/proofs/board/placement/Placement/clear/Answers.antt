use Rattle.std.proofs.Common.{arith, length, ◌<◌, None, set, subst}
use Rattle.chess_types.specs.steps.KeptSets.{IsCleared}
use Rattle.std.proofs.lemmas.List.{length-set}
use Rattle.chess_types.specs.board.Board.{man_at}
use Rattle.chess_types.specs.board.Cells.{board_of}
use Rattle.chess_types.proofs.CellLemmas.{board_of-set_none}
use Rattle.chess_types.proofs.MenLemmas.{count-set_none}
use Rattle.chess_types.proofs.KeptLemmas.{clear_cells}
use Rattle.chess_types.proofs.board.placement.Placement.clear.Goals as goal

pub returns : goal.returns
returns c =
    let within : c.args.at < length c.self.inside.cells = omega arith in
    grind (arith, board_of-set_none c.self.inside.cells c.args.at within)

pub invariant_of-self : goal.invariant_of-self
invariant_of-self c =
    let cells = c.self.inside.cells in
    let at = c.index.result in
    let within : at < length cells = omega arith in
    let is = clear_cells cells at within in
    rw c.empty.ensures (
      λ colour. omega (arith, count-set_none cells at colour within, c.self.invariant.0 colour),
      c.clear.ensures (man_at (board_of cells)) (man_at (board_of (set cells at None))) c.self.invariant.1
          (subst (λ x. IsCleared (man_at (board_of cells)) (man_at (board_of (set cells at None))) x) c.index.ensures.value is),
      omega (arith, length-set cells at None),
    )

use Rattle.std.proofs.Common.{◌≡◌, arith, length, ◌<◌, None, Some, set, get_or, subst}
use Rattle.chess_types.specs.steps.KeptSets.{IsPut}
use Rattle.std.proofs.lemmas.List.{length-set}
use Rattle.chess_types.specs.board.Board.{man_at}
use Rattle.chess_types.specs.board.Cells.{board_of}
use Rattle.chess_types.proofs.CellLemmas.{board_of-set, get-board_of}
use Rattle.chess_types.proofs.MenLemmas.{AtMost16-set_some}
use Rattle.chess_types.proofs.KeptLemmas.{put_cells}
use Rattle.chess_types.proofs.board.placement.Placement.put.Goals as goal

pub returns : goal.returns
returns c =
    let within : c.args.at < length c.self.inside.cells = omega arith in
    grind (arith, board_of-set c.self.inside.cells c.args.at c.args.man within)

pub invariant_of-self : goal.invariant_of-self
invariant_of-self c =
    let cells = c.self.inside.cells in
    let at = c.index.result in
    let len : length cells ≡ 64 = omega arith in
    let within : at < length cells = omega arith in
    let free : get_or cells at None ≡ None = grind (arith, get-board_of cells c.args.at) in
    let room = rw (← c.self.view_is) at c.requires.room in
    let is = put_cells cells at c.args.man within free in
    rw c.of.ensures (
      AtMost16-set_some cells at c.args.man len c.index.ensures.below free room c.self.invariant.0,
      c.put.ensures (man_at (board_of cells)) (man_at (board_of (set cells at (Some c.args.man)))) c.self.invariant.1
          (subst (λ x. IsPut (man_at (board_of cells)) (man_at (board_of (set cells at (Some c.args.man)))) x c.args.man) c.index.ensures.value is),
      omega (arith, length-set cells at (Some c.args.man)),
    )

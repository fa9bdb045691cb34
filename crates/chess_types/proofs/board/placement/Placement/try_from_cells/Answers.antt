use Rattle.std.proofs.Common.{◌≡◌, None, length, sym, arith}
use Rattle.chess_types.specs.board.Cells.{board_of}
use Rattle.chess_types.specs.board.Faults.{men_fault}
use Rattle.chess_types.proofs.FaultLemmas.{few_of_each, good_men}
use Rattle.chess_types.proofs.board.placement.Placement.try_from_cells.Goals as goal

pub invariant_of-result : goal.invariant_of-result
invariant_of-result c =
    let cells = c.args.cells.now in
    let len : length cells ≡ 64 = omega arith in
    let none : men_fault (board_of cells) ≡ None = sym (c.in_default.ensures (board_of cells) c.gather-kept.ensures.kept) in
    rw c.gather-kept.ensures.contents (few_of_each cells len (good_men (board_of cells) none).few, c.gather-kept.ensures.kept, len)

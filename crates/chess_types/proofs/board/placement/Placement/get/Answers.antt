use Rattle.std.proofs.Common.{◌∙◌, ◌<◌, length, arith}
use Rattle.std.specs.Prelude.{None}
use Rattle.std.proofs.lemmas.List.{get_or_default}
use Rattle.chess_types.proofs.CellLemmas.{get-board_of}
use Rattle.chess_types.proofs.board.placement.Placement.get.Goals as goal

pub returns : goal.returns
returns c =
    let cells = c.self.inside.cells in
    let within : c.index.result < length cells = omega arith in
    let is = get_or_default cells c.index.result c.index-self-index.result None within in
    c.man.ensures ∙ is ∙ grind (arith, get-board_of cells c.args.at)

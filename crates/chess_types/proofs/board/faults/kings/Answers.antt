use Rattle.std.proofs.Common.{◌∙◌}
use Rattle.chess_types.specs.board.Board.{man_at}
use Rattle.chess_types.specs.board.Men.{is_king_of}
use Rattle.chess_types.proofs.FaultLemmas.{count_gathered}
use Rattle.chess_types.proofs.KeptLemmas.{gathers_king}
use Rattle.chess_types.proofs.board.faults.kings.Goals as goal

pub returns : goal.returns
returns c = λ board are.
    c.len.ensures.counted
    ∙ count_gathered board (is_king_of c.args.colour) c.intersection.result
    (rw c.intersection.ensures
    (gathers_king c.args.kept.now.kings c.men.result (man_at board) c.args.colour are.kings (c.men.ensures (man_at board) are)))

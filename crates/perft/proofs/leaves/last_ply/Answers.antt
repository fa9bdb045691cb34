use Rattle.std.proofs.Common.{refl, arith}
use Rattle.chess_types.specs.board.Legal.{legal_moves}
use Rattle.perft.proofs.LeafLemmas.{one_ply}
use Rattle.perft.proofs.leaves.last_ply.Goals as goal

pub returns-in-Counted-clause-value : goal.returns-in-Counted-clause-value
returns-in-Counted-clause-value c =
    one_ply c.args.live.now.position 1 c.count_legal.result (legal_moves c.args.live.now.position) refl c.count_legal.ensures.count refl (omega arith)

use Rattle.chess_pgn.proofs.GameLemmas.{escaped_more}
use Rattle.chess_pgn.proofs.writer.push_escaped.Goals as goal

pub loop-b-preserved : goal.loop-b-preserved
loop-b-preserved g c = escaped_more _ _ _ _ c.loop-b.b-index c.loop-b-test.true c.loop-b.invariant c.in_ok-push_byte.ensures

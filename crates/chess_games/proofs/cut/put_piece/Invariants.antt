use Rattle.std.proofs.Common.{◌≤◌, drop}
use Rattle.chess_games.proofs.MarkedLemmas.{Pending}
use Rattle.chess_games.proofs.cut.put_piece.Given as goal

-- what comes before the last border is written
abbrev pub invariant-loop-at : goal.invariant-loop-at
invariant-loop-at g l = (l.written ≤ l.at) × Pending g.W.Sink.takes g.W.Sink.failed l.fn.writer l.piece (drop l.written l.piece) l.writer

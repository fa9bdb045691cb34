use Rattle.std.proofs.Common.{◌<◌, vec_len}
use Rattle.chess_games.proofs.MarkedLemmas.{CutSoFar}
use Rattle.chess_games.proofs.cut.cut.Given as goal

-- there is room to read into, and what was read is written
abbrev pub invariant-loop-reads : goal.invariant-loop-reads
invariant-loop-reads g l = (0 < vec_len l.buffer) × CutSoFar g.R.Source.gives g.R.Source.failed g.W.Sink.takes g.W.Sink.failed l.fn.reader l.reader l.fn.writer l.writer l.reads

use Rattle.std.proofs.Common.{arith}
use Rattle.chess_pgn.proofs.LayLemmas.{breaks_on, break_ends}
use Rattle.chess_pgn.proofs.lines.Lines.end_word.Goals as goal

pub returns-clause-ended : goal.returns-clause-ended
returns-clause-ended g c = break_ends _ _ _ _ _ c.break_line.ensures.text c.break_line.ensures.space

pub returns-clause-text : goal.returns-clause-text
returns-clause-text g c = breaks_on _ _ _ _ _ c.args.self.now.column _ _ c.break_line.ensures.text c.break_line.ensures.space c.break_line.ensures.column (omega arith) (omega arith) (omega arith)

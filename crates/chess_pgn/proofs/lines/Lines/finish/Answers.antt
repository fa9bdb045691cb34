use Rattle.std.proofs.Common.{rules}
use Rattle.chess_pgn.proofs.LayLemmas.{lays_finish}
use Rattle.chess_pgn.proofs.lines.Lines.finish.Goals as goal

pub returns : goal.returns
returns g c = λ before text l some. lays_finish before _ _ _ text _ (c.in_ok-end_word.ensures.text before text l) c.in_ok-end_word.ensures.ended (search rules) some

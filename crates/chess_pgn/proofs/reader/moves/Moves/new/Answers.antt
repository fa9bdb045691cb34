use Rattle.chess_pgn.proofs.StepLemmas.{starts}
use Rattle.chess_pgn.proofs.reader.moves.Moves.new.Goals as goal

pub returns : goal.returns
returns g c = starts c.new.result c.new-2.result.items c.new-3.result.items c.args.start c.new.ensures c.new-2.ensures.items c.new-3.ensures.items

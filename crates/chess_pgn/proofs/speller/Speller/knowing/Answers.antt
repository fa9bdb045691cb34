use Rattle.chess_pgn.proofs.KnownLemmas.{line_start}
use Rattle.chess_pgn.proofs.speller.Speller.knowing.Goals as goal

pub returns : goal.returns
returns g c = line_start c.args.texts.now

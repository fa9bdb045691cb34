use Rattle.chess_cli.proofs.AgainLemmas.{read_are_games, written_are_read}
use Rattle.chess_cli.proofs.laws.collection_laws.Goals as goal

pub returns : goal.returns
returns c = record { written = written_are_read c.game_laws.ensures.written; read = read_are_games c.game_laws.ensures.read }

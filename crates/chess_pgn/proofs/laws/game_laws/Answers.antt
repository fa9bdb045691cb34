use Rattle.chess_items.proofs.CollectionLemmas.{collected_once}
use Rattle.chess_pgn.specs.Games.{Game}
use Rattle.chess_pgn.specs.Reading.{BeginsWithGame, IsWhite}
use Rattle.chess_pgn.proofs.AgainLemmas.{new_is_game, read_is_game, written_is_read}
use Rattle.chess_pgn.proofs.OneGameLemmas.{one_game, white_no_game}
use Rattle.chess_pgn.proofs.laws.game_laws.Goals as goal

pub returns : goal.returns
returns c = record { written = written_is_read; new = new_is_game; read = read_is_game; one = (one_game, white_no_game); collection = collected_once Game BeginsWithGame IsWhite one_game white_no_game }

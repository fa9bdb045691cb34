use Rattle.chess_cli.proofs.PathLaws.{path_in-path_text}
use Rattle.chess_cli.proofs.laws.path_laws.Goals as goal

pub returns : goal.returns
returns c = record { read_back = path_in-path_text }

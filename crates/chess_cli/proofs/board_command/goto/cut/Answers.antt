use Rattle.std.proofs.Common.{rules}
use Rattle.chess_cli.proofs.PathLemmas.{cut_at, cut_none}
use Rattle.chess_cli.proofs.board_command.goto.cut.Goals as goal

pub returns-in-Some : goal.returns-in-Some
returns-in-Some c = cut_at c.args.word.now c.in-Some.at (search rules)

pub returns-in-None : goal.returns-in-None
returns-in-None c = cut_none c.args.word.now (search rules)

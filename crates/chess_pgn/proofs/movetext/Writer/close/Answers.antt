use Rattle.chess_pgn.specs.steps.TaskCode.{todos}
use Rattle.chess_pgn.proofs.TaskLemmas.{step_close}
use Rattle.chess_pgn.proofs.movetext.Writer.close.Goals as goal

pub returns : goal.returns
returns g c = step_close c.push.result c.args.self.now.lines c.push.new.self c.args.self.now.speller (todos c.args.self.now.tasks.items) c.requires c.push.ensures

use Rattle.chess_pgn.specs.steps.TaskCode.{todos}
use Rattle.chess_pgn.proofs.AddLemmas.{adds_none}
use Rattle.chess_pgn.proofs.TaskLemmas.{step_back}
use Rattle.chess_pgn.proofs.movetext.Writer.back.Goals as goal

pub returns : goal.returns
returns g c =
    step_back c.args.self.now.lines c.args.self.now.speller c.back.new.self (todos c.args.self.now.tasks.items) c.requires c.back.ensures
    (adds_none c.args.self.now.lines)

use Rattle.chess_pgn.specs.steps.Tasks.{work}
use Rattle.chess_pgn.specs.steps.TaskCode.{Done, todos}
use Rattle.chess_pgn.proofs.movetext.Writer.finish.Given as goal

abbrev pub invariant-loop-task : goal.invariant-loop-task
invariant-loop-task g l = Done l.fn.self.lines l.self.lines l.fn.self.speller l.self.speller (todos l.fn.self.tasks.items) (todos l.self.tasks.items)

abbrev pub decreases-loop-task : goal.decreases-loop-task
decreases-loop-task g l = work (todos l.self.tasks.items)

use Rattle.std.proofs.Common.{◌∷◌}
use Rattle.chess_pgn.specs.steps.Tasks.{Moves, work}
use Rattle.chess_pgn.specs.steps.TaskCode.{Done, todos}
use Rattle.chess_pgn.proofs.movetext.Writer.moves.Given as goal

abbrev pub invariant-loop-node : goal.invariant-loop-node
invariant-loop-node g l =
    Done l.fn.self.lines l.self.lines l.fn.self.speller l.self.speller (Moves l.fn.nodes l.fn.due ∷ todos l.fn.self.tasks.items) (Moves l.others l.due ∷ todos l.self.tasks.items)

abbrev pub decreases-loop-node : goal.decreases-loop-node
decreases-loop-node g l = work (Moves l.others l.due ∷ todos l.self.tasks.items)

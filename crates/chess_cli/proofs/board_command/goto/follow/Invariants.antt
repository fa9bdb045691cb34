use Rattle.std.proofs.Common.{length}
use Rattle.std.specs.Prelude.{option_map}
use Rattle.chess_cli.specs.steps.Replies.{parts_left}
use Rattle.chess_cli.proofs.GotoLemmas.{Gone}
use Rattle.chess_cli.proofs.board_command.goto.follow.Given as goal

abbrev pub invariant-loop-rest : goal.invariant-loop-rest
invariant-loop-rest g l = Gone l.word (option_map (λ text. text.now) l.rest) l.fn.analysis l.analysis

abbrev pub decreases-loop-rest : goal.decreases-loop-rest
decreases-loop-rest g l = length (parts_left (option_map (λ text. text.now) l.rest))

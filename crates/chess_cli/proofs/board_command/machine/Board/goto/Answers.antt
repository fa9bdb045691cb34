use Rattle.std.proofs.Common.{[], ap, false, refl, subst, sym}
use Rattle.chess_cli.specs.Answers.{Effect, HasEffect}
use Rattle.chess_cli.specs.steps.Replies.{path_effect}
use Rattle.chess_cli.proofs.PathLemmas.{path_in-root}
use Rattle.chess_cli.proofs.board_command.machine.Board.goto.Goals as goal

pub returns-then-eq : goal.returns-then-eq
returns-then-eq g c =
    subst (λ (e : Effect). HasEffect false e c.args.self.now c.start.result c.start.new.self) (sym (ap (path_effect c.args.self.now) (path_in-root c.args.word.now [] (cc) refl))) c.start.ensures

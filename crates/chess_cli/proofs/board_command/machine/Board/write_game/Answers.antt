use Rattle.std.proofs.Common.{refl, inl, inr}
use Rattle.chess_cli.specs.Answers.{memory_refusal}
use Rattle.chess_loop.proofs.SendingLemmas.{puts}
use Rattle.chess_cli.proofs.board_command.machine.Board.write_game.Goals as goal

pub returns-in_default : goal.returns-in_default
returns-in_default g c =
    (memory_refusal, inr refl, puts g.W.Sink.takes g.W.Sink.failed c.args.writer.now c.args.page.now memory_refusal c.put_refused.new.page c.put_refused.ensures)

pub returns : goal.returns
returns g c = (c.in-Ok.text.items, inl (rw c.tree.ensures at c.in-Ok.ensures.ok), rw c.as_slice.ensures.value at c.send.ensures)

use Rattle.std.proofs.Common.{refl}
use Rattle.chess_cli.proofs.AnswerLemmas.{answered_whole, answered_path, answered_game}
use Rattle.chess_cli.proofs.board_command.machine.Board.put_whole_answer.Goals as goal

pub returns-in-Path-clause-answers : goal.returns-in-Path-clause-answers
returns-in-Path-clause-answers g c =
    answered_path g.W.Sink.takes g.W.Sink.failed c.args.self.now c.put_answer.new.self c.args.line.now c.args.page.now c.put_answer.new.page c.write_path.new.page c.args.writer.now c.write_path.new.writer c.write_path.result
    (c.in-Path.ensures.reply) (rw c.tree.ensures at c.write_path.ensures)

pub returns-clause-answers : goal.returns-clause-answers
returns-clause-answers g c =
    answered_whole g.W.Sink.takes g.W.Sink.failed c.args.self.now c.put_answer.new.self c.args.line.now c.args.page.now c.put_answer.new.page c.args.writer.now (c.in-Nothing.ensures.reply)

pub returns-in-Game-clause-answers : goal.returns-in-Game-clause-answers
returns-in-Game-clause-answers g c =
    answered_game g.W.Sink.takes g.W.Sink.failed c.args.self.now c.put_answer.new.self c.args.line.now c.args.page.now c.put_answer.new.page c.write_game.new.page c.args.writer.now c.write_game.new.writer c.write_game.result
    (c.in-Game.ensures.game refl) (c.in-Game.ensures.reply) c.write_game.ensures

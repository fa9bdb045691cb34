use Rattle.std.proofs.Common.{inl}
use Rattle.chess_loop.proofs.SendingLemmas.{answers_one}
use Rattle.chess_cli.specs.Answers.{Answers}
use Rattle.chess_cli.proofs.board_command.machine.BoardLineHandler.answer.Goals as goal

pub returns : goal.returns
returns g c =
    let answered = c.put_whole_answer.ensures.answers in
    answers_one g.W.Sink.takes g.W.Sink.failed Answers c.args.self.now c.put_whole_answer.new.self c.args.line.now answered.0 c.args.page.now c.put_whole_answer.new.page
    c.args.writer.now c.put_whole_answer.new.writer c.put_whole_answer.result
    (inl (c.requires.short, answered.1)) answered.2

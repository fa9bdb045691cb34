use Rattle.std.proofs.Common.{refl}
use Rattle.chess_cli.specs.Answers.{long_line, memory_refusal}
use Rattle.chess_cli.proofs.AnswerLemmas.{answers_long, answers_without_memory}
use Rattle.chess_cli.proofs.board_command.machine.BoardLineHandler.refuse.Goals as goal

pub returns-in-TooLong : goal.returns-in-TooLong
returns-in-TooLong g c = λ bytes over. (long_line, (long_line, answers_long c.args.self.now bytes (rw c.in-TooLong.is at over), refl), c.put_refused.ensures)

pub returns-in-NoMemory : goal.returns-in-NoMemory
returns-in-NoMemory g c = λ bytes unread.
    let found = rw c.in-NoMemory.is at unread in
    (memory_refusal, (memory_refusal, answers_without_memory c.args.self.now bytes found.0 found.1, refl), c.put_refused-in-NoMemory.ensures)

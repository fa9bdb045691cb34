use Rattle.chess_cli.specs.TimedSessions.{no_memory_line, too_long_line}
use Rattle.chess_cli.proofs.TimedSessionLemmas.{answered_long, answered_without_memory}
use Rattle.chess_cli.proofs.uci_command.timed_session.TimedSessionLineHandler.refuse.Goals as goal

pub returns-in-TooLong : goal.returns-in-TooLong
returns-in-TooLong g c = λ bytes over. (too_long_line, answered_long g.C.Clock.reads c.args.self.now bytes c.requires.awake (rw c.in-TooLong.is at over), c.put_line.ensures)

pub returns-in-NoMemory : goal.returns-in-NoMemory
returns-in-NoMemory g c = λ bytes unread.
    let found = rw c.in-NoMemory.is at unread in
    (no_memory_line, answered_without_memory g.C.Clock.reads c.args.self.now bytes c.requires.awake found.0 found.1, c.put_line-in-NoMemory.ensures)

use Rattle.std.proofs.Common.{◌≡◌, ◌+◌, ◌*◌, ◌≤◌, ◌++◌, take, length}
use Rattle.chess_cli.specs.TimedSessions.{reply_lines}
use Rattle.chess_cli.proofs.uci_command.timed_session.put_replies.Given as goal

abbrev pub invariant-loop-reply : goal.invariant-loop-reply
invariant-loop-reply g l = record {
  text : l.page ≡ l.fn.page ++ reply_lines (take l.reply-index l.reply-items);
  len : length l.page ≤ length l.fn.page + 65 * l.reply-index;
}

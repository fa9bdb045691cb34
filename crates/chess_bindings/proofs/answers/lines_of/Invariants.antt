use Rattle.std.proofs.Common.{◌≡◌, ◌*◌, ◌≤◌, take, length}
use Rattle.chess_cli.specs.TimedSessions.{reply_lines}
use Rattle.chess_bindings.proofs.answers.lines_of.Given as goal

abbrev pub invariant-loop-reply : goal.invariant-loop-reply
invariant-loop-reply l = record {
  text : l.text.bytes ≡ reply_lines (take l.reply-index l.reply-items);
  len : length l.text.bytes ≤ 65 * l.reply-index;
}

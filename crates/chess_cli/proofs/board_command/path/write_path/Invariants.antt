use Rattle.std.proofs.Common.{◌+◌, ◌≤◌, length}
use Rattle.chess_cli.proofs.PlaceLemmas.{PlacesSent}
use Rattle.chess_cli.proofs.board_command.path.write_path.Given as goal

abbrev pub invariant-loop-ply : goal.invariant-loop-ply
invariant-loop-ply g l = record {
  sent : PlacesSent g.W.Sink.takes g.W.Sink.failed l.fn.page l.fn.writer l.tree.path l.ply l.page l.writer;
  room : length l.page + 2500 ≤ 65536;
}

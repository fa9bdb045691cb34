use Rattle.std.proofs.Common.{◌≡◌, []}
use Rattle.std.specs.Io.KnownBytes.{Appends}
use Rattle.byte_streams.proofs.streams.ToWriteSink.write.Given as goal

abbrev pub invariant-loop-turn : goal.invariant-loop-turn
invariant-loop-turn g l = record {
  kept : Appends (g.W.Write.contents l.fn.self.inner) (g.W.Write.contents l.self-inside.writer) [];
  flag : l.self-inside.has_failed ≡ l.fn.self.failed;
}

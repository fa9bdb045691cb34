use Rattle.std.proofs.Common.{◌≡◌, []}
use Rattle.std.specs.Io.KnownBytes.{Consumes}
use Rattle.byte_streams.proofs.streams.FromReadSource.read.Given as goal

abbrev pub invariant-loop-turn : goal.invariant-loop-turn
invariant-loop-turn g l = record {
  kept : Consumes (g.R.Read.remaining l.fn.self.inner) (g.R.Read.remaining l.self-inside.reader) [];
  flag : l.self-inside.has_failed ≡ l.fn.self.failed;
}

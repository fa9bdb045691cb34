use Rattle.std.proofs.Common.{arith}
use Rattle.lent_heap.proofs.Spacing.{all_free}
use Rattle.lent_heap.proofs.heap.Heap.used.Goals as goal

pub returns-clause-whole : goal.returns-clause-whole
returns-clause-whole c none =
    let h = c.args.self.now in
    all_free h.holes.region h.holes.holes h.bytes h.fits.0.0 h.fits.1 h.coalesced h.holes.sorted (omega (arith, h.counted))

use Rattle.std.proofs.Common.{◌≡◌, drop}
use Rattle.perft.proofs.LeafLemmas.{Counted}
use Rattle.perft.proofs.leaves.+leaves.Given as goal

abbrev pub decreases-leaves : goal.decreases-leaves
decreases-leaves l = l.depth

abbrev pub invariant-loop-m : goal.invariant-loop-m
invariant-loop-m l = record {
  position : l.live.position ≡ l.fn.live.position;
  words : l.live.words ≡ l.fn.live.words;
  counted : Counted l.fn.live.position l.depth l.count (drop l.m-index l.m-items);
}

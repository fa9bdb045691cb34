use Rattle.std.proofs.Common.{◌≡◌, drop}
use Rattle.perft.proofs.LeafLemmas.{Counted}
use Rattle.perft.proofs.leaves.make_each.Given as goal

abbrev pub invariant-loop-m : goal.invariant-loop-m
invariant-loop-m l = record {
  position : l.live.position ≡ l.fn.live.position;
  words : l.live.words ≡ l.fn.live.words;
  counted : Counted l.fn.live.position 1 l.number (drop l.m-index l.m-items);
}

use Rattle.std.proofs.Common.{◌≡◌, ◌≤◌, take}
use Rattle.std.specs.Prelude.{filter}
use Rattle.std.specs.FinSet as set
use Rattle.arrayvec.specs.ArrayVec.{array_vec_len}
use Rattle.chess_search_tests.proofs.tests.random.leading_to.Given as goal

abbrev pub invariant-loop-m : goal.invariant-loop-m
invariant-loop-m l = record {
  found : l.found.items ≡ filter (λ m. set.contains l.targets m.to) (take l.m-index l.m-items);
  few : array_vec_len l.found ≤ l.m-index;
}

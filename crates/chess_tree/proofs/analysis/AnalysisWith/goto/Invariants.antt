use Rattle.std.proofs.Common.{◌≡◌, take}
use Rattle.chess_tree.proofs.analysis.AnalysisWith.goto.Given as goal

abbrev pub invariant-loop-place : goal.invariant-loop-place
invariant-loop-place g l = record {
  tree : l.self.tree ≡ l.fn.self.tree;
  path : l.self.path ≡ take l.place-index l.path;
}

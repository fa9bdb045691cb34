use Rattle.std.proofs.Common.{◌≡◌, take}
use Rattle.chess_tree.specs.GameTree.{line_to}
use Rattle.chess_edit.specs.steps.Branches.{annotated_all}
use Rattle.chess_edit.proofs.joining.annotate.Given as goal

abbrev pub invariant-loop-nag : goal.invariant-loop-nag
invariant-loop-nag g l =
    record {
      all : l.tree ≡ annotated_all (take l.nag-index l.nags) l.fn.tree;
      line : line_to l.tree ≡ line_to l.fn.tree;
    }

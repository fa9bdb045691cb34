use Rattle.std.proofs.Common.{sym, ap, ◌∙◌}
use Rattle.chess_tree.specs.GameTree.{TreeParts, has}
use Rattle.chess_tree.proofs.WalkLemmas.{goes_on}
use Rattle.chess_tree.proofs.analysis.AnalysisWith.goto.Goals as goal

pub unreachable-requires : goal.unreachable-requires
unreachable-requires g c =
    goes_on c.args.path.now c.loop-place.place-index c.args.self.now c.loop-place.self (ap (λ (t : TreeParts). has c.args.path.now t.tree.below) (sym c.self.view_is) ∙ c.in_ok-check_path.ensures.there) c.loop-place-test.true c.loop-place.invariant.tree c.loop-place.invariant.path
    c.in_default.ensures.no_such.1

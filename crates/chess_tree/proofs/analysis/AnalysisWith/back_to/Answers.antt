use Rattle.std.proofs.Common.{length, ap, arith}
use Rattle.chess_tree.specs.GameTree.{TreeParts}
use Rattle.chess_tree.proofs.AnalysisLemmas.{back_to_on, back_to_smaller}
use Rattle.chess_tree.proofs.analysis.AnalysisWith.back_to.Goals as goal

pub loop-self-smaller : goal.loop-self-smaller
loop-self-smaller g c =
    let lengths = ap (λ (t : TreeParts). length t.path) c.self.view_is in
    back_to_smaller c.args.self.now c.loop-self.self c.back-stepped.new.self c.args.depth c.back-stepped.result _ (omega (arith, c.loop-self-test.true, c.depth.ensures.value, lengths)) c.back-stepped.ensures.ok c.back-stepped.ensures.at_root

pub loop-self-preserved : goal.loop-self-preserved
loop-self-preserved g c =
    let lengths = ap (λ (t : TreeParts). length t.path) c.self.view_is in
    back_to_on c.args.self.now c.loop-self.self c.back-stepped.new.self c.args.depth c.back-stepped.result _ (omega (arith, c.loop-self-test.true, c.depth.ensures.value, lengths)) c.back-stepped.ensures.ok c.back-stepped.ensures.at_root
    c.loop-self.invariant

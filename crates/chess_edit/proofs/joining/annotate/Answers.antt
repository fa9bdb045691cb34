use Rattle.std.proofs.Common.{◌∙◌}
use Rattle.chess_edit.proofs.JoinLemmas.{all_more}
use Rattle.chess_edit.proofs.joining.annotate.Goals as goal

pub loop-nag-preserved : goal.loop-nag-preserved
loop-nag-preserved g c = record {
  all = all_more c.args.nags.now c.loop-nag.nag-index c.args.tree.now c.loop-nag.tree c.add_nag.new.self c.loop-nag-test.true c.loop-nag.invariant.all c.in_ok-add_nag.ensures.ok;
  line = c.add_nag.ensures.line ∙ c.loop-nag.invariant.line;
}

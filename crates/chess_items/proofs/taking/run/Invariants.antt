use Rattle.chess_items.specs.steps.Texts.{size}
use Rattle.chess_items.proofs.TakingLemmas.{Underway}
use Rattle.chess_items.proofs.taking.run.Given as goal

abbrev pub invariant-loop-fault : goal.invariant-loop-fault
invariant-loop-fault g l = Underway g.X.Text.comes g.X.Text.at_hand g.X.Text.all g.X.Text.sound g.X.Text.reads g.T.Taker.takes l.limit l.fn.text l.fn.taker l.at l.place l.white l.text l.taker

abbrev pub decreases-loop-fault : goal.decreases-loop-fault
decreases-loop-fault g l = size g.X.Text.at_hand g.X.Text.reads l.text

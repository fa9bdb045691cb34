use Rattle.chess_items.specs.steps.Texts.{size}
use Rattle.chess_items.proofs.BlankLemmas.{Skipping}
use Rattle.chess_items.proofs.blanks.skip_white.Given as goal

abbrev pub invariant-loop-fault : goal.invariant-loop-fault
invariant-loop-fault g l = Skipping g.X.Text.comes g.X.Text.at_hand g.X.Text.all g.X.Text.sound g.X.Text.reads l.fn.place l.fn.text l.place l.text

abbrev pub decreases-loop-fault : goal.decreases-loop-fault
decreases-loop-fault g l = size g.X.Text.at_hand g.X.Text.reads l.text

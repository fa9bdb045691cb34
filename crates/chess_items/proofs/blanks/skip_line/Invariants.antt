use Rattle.chess_items.specs.steps.Texts.{size}
use Rattle.chess_items.proofs.BlankLemmas.{Hiding}
use Rattle.chess_items.proofs.blanks.skip_line.Given as goal

abbrev pub invariant-loop-line : goal.invariant-loop-line
invariant-loop-line g l = Hiding g.X.Text.comes g.X.Text.at_hand g.X.Text.all g.X.Text.sound g.X.Text.reads l.fn.text l.text

abbrev pub decreases-loop-line : goal.decreases-loop-line
decreases-loop-line g l = size g.X.Text.at_hand g.X.Text.reads l.text

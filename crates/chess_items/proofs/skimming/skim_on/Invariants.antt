use Rattle.chess_items.specs.steps.Texts.{size}
use Rattle.std.proofs.Common.{◌≤◌}
use Rattle.chess_items.specs.Abandoned.{HaltsIn}
use Rattle.chess_items.specs.steps.Skimming.{Onward}
use Rattle.chess_items.proofs.skimming.skim_on.Given as goal

abbrev pub invariant-loop-fault : goal.invariant-loop-fault
invariant-loop-fault g l =
    g.X.Text.sound l.text × (l.at ≤ 1048576) × Onward g.X.Text.comes g.X.Text.at_hand g.X.Text.all l.fn.text l.text
    × ((first : g.row.X.Denot) → HaltsIn g.X.Text.comes g.X.Text.at_hand g.X.Text.all g.X.Text.reads first l.fn.text l.fn.halt → HaltsIn g.X.Text.comes g.X.Text.at_hand g.X.Text.all g.X.Text.reads first l.text (record { place = l.place; at = l.at; begun = l.skimmer.begun; white = l.white }))

abbrev pub decreases-loop-fault : goal.decreases-loop-fault
decreases-loop-fault g l = size g.X.Text.at_hand g.X.Text.reads l.text

use Rattle.chess_items.proofs.OpenLemmas.{nothing_undecided}
use Rattle.chess_items.proofs.text.WholeText.looked.Goals as goal

pub returns-clause-undecided : goal.returns-clause-undecided
returns-clause-undecided c = nothing_undecided c.args._place

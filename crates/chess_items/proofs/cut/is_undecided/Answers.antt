use Rattle.chess_items.proofs.OpenLemmas.{open_if, decided_so}
use Rattle.chess_items.proofs.cut.is_undecided.Goals as goal

pub reaches_end-requires-clause-looked : goal.reaches_end-requires-clause-looked
reaches_end-requires-clause-looked c = open_if _ _ c.requires.looked

pub returns : goal.returns
returns c = decided_so _ _ c.reaches_end.result c.reaches_end.ensures

use Rattle.chess_tree.proofs.UndoLemmas.{loses_one_at_most, undoes_add, undoes_play}
use Rattle.chess_tree.proofs.laws.undo_laws.Goals as goal

pub returns : goal.returns
returns c = record { played = undoes_play; added = undoes_add; at_most_one = loses_one_at_most }

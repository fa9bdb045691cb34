use Rattle.chess_search.proofs.MateLemmas.{mate_is_forced, mate_is_reported, mated_is_forced, mated_is_reported}
use Rattle.chess_search.proofs.laws.mate_laws.Goals as goal

pub returns : goal.returns
returns c = record { reported = mate_is_reported; forced = mate_is_forced; mated_reported = mated_is_reported; mated_forced = mated_is_forced }

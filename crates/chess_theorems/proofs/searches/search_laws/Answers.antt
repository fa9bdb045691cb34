use Rattle.chess_theorems.proofs.SearchLemmas.{best_is_worth}
use Rattle.chess_theorems.proofs.searches.search_laws.Goals as goal

pub returns : goal.returns
returns c = record { best = best_is_worth }

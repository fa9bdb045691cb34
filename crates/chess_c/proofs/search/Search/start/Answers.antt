use Rattle.std.proofs.Common.{rules}
use Rattle.chess_c.proofs.SearchLemmas.{search_begun}
use Rattle.chess_c.proofs.search.Search.start.Goals as goal

pub invariant_of-result : goal.invariant_of-result
invariant_of-result c = (search_begun _ _ _ _ _ c.start.ensures c.moves-legal.ensures.listed c.moves-legal.ensures.as_before.line (search rules), search rules)

use Rattle.chess_search.proofs.search.Searcher.+follow.Given as goal

abbrev pub decreases-follow : goal.decreases-follow
decreases-follow g l = l.depth

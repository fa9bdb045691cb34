use Rattle.chess_search_tests.proofs.tests.random.+wander.Given as goal

abbrev pub decreases-wander : goal.decreases-wander
decreases-wander g l = l.plies

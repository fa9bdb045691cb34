use Rattle.chess_pgn_tests.proofs.tests.random.+vary.Given as goal

abbrev pub decreases-vary : goal.decreases-vary
decreases-vary g l = l.deep

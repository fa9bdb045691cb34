use Rattle.chess_pgn_tests.proofs.tests.common.+export.Given as goal

abbrev pub decreases-export : goal.decreases-export
decreases-export g l = l.most

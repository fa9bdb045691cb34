use Rattle.chess_pgn_tests.proofs.tests.reads.+count_games.Given as goal

abbrev pub decreases-count_games : goal.decreases-count_games
decreases-count_games g l = l.most

use Rattle.std.proofs.Common.{◌-◌, length}
use Rattle.chess_search_tests.proofs.tests.random.+search_all.Given as goal

abbrev pub decreases-search_all : goal.decreases-search_all
decreases-search_all g l = length l.slices.now.roots - l.slices.now.searched

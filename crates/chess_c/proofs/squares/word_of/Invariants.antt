use Rattle.chess_c.proofs.WordLemmas.{WordSoFar}
use Rattle.chess_c.proofs.squares.word_of.Given as goal

abbrev pub invariant-loop-number : goal.invariant-loop-number
invariant-loop-number l = WordSoFar l.set l.word l.number

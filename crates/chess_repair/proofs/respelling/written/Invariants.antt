use Rattle.std.proofs.Common.{length}
use Rattle.chess_repair.proofs.LetterLemmas.{IsSpeltTo}
use Rattle.chess_repair.proofs.respelling.written.Given as goal

abbrev pub invariant-loop-rest : goal.invariant-loop-rest
invariant-loop-rest g l = IsSpeltTo l.letters l.text l.spelt.items l.standing l.rest

abbrev pub decreases-loop-rest : goal.decreases-loop-rest
decreases-loop-rest g l = length l.rest

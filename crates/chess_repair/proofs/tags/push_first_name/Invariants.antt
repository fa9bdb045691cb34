use Rattle.std.proofs.Common.{◌≡◌, ◌++◌, length}
use Rattle.chess_repair.specs.Tags.{first_name}
use Rattle.chess_repair.proofs.tags.push_first_name.Given as goal

abbrev pub invariant-loop-rest : goal.invariant-loop-rest
invariant-loop-rest g l = l.fn.text.items ++ first_name l.start ≡ l.text.items ++ first_name l.rest

abbrev pub decreases-loop-rest : goal.decreases-loop-rest
decreases-loop-rest g l = length l.rest

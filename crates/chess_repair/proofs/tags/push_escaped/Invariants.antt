use Rattle.std.proofs.Common.{◌≡◌, ◌++◌, false, length}
use Rattle.chess_repair.specs.Tags.{with_escapes}
use Rattle.chess_repair.proofs.tags.push_escaped.Given as goal

abbrev pub invariant-loop-rest : goal.invariant-loop-rest
invariant-loop-rest g l = l.fn.text.items ++ with_escapes false l.value ≡ l.text.items ++ with_escapes l.is_escaped l.rest

abbrev pub decreases-loop-rest : goal.decreases-loop-rest
decreases-loop-rest g l = length l.rest

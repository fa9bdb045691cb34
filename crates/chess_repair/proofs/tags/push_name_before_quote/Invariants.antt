use Rattle.std.proofs.Common.{◌≡◌, ◌++◌, length}
use Rattle.chess_repair.specs.Tags.{name_before_quote}
use Rattle.chess_repair.proofs.tags.push_name_before_quote.Given as goal

abbrev pub invariant-loop-rest : goal.invariant-loop-rest
invariant-loop-rest g l = l.fn.text.items ++ name_before_quote l.tag ≡ l.text.items ++ name_before_quote l.rest

abbrev pub decreases-loop-rest : goal.decreases-loop-rest
decreases-loop-rest g l = length l.rest

use Rattle.std.proofs.Common.{◌≡◌, length}
use Rattle.chess_items.specs.Items.{is_blank}
use Rattle.chess_repair.specs.Runs.{past}
use Rattle.chess_repair.proofs.runs.past_blanks.Given as goal

abbrev pub invariant-loop-rest : goal.invariant-loop-rest
invariant-loop-rest l = past is_blank l.text ≡ past is_blank l.rest

abbrev pub decreases-loop-rest : goal.decreases-loop-rest
decreases-loop-rest l = length l.rest

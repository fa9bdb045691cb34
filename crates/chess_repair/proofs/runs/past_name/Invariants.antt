use Rattle.std.proofs.Common.{◌≡◌, length}
use Rattle.chess_items.specs.Items.{is_name_byte}
use Rattle.chess_repair.specs.Runs.{past}
use Rattle.chess_repair.proofs.runs.past_name.Given as goal

abbrev pub invariant-loop-rest : goal.invariant-loop-rest
invariant-loop-rest l = past is_name_byte l.text ≡ past is_name_byte l.rest

abbrev pub decreases-loop-rest : goal.decreases-loop-rest
decreases-loop-rest l = length l.rest

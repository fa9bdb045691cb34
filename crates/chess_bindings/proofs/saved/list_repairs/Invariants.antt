use Rattle.std.proofs.Common.{◌≡◌, ◌++◌, map, take}
use Rattle.chess_bindings.specs.Saved.{repair_report}
use Rattle.chess_bindings.proofs.saved.list_repairs.Given as goal

-- those so far are listed
abbrev pub invariant-loop-repair : goal.invariant-loop-repair
invariant-loop-repair g l = l.reports.items ≡ l.initial.reports.items ++ map repair_report (take l.repair-index l.repairs)

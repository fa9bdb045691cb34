use Rattle.std.proofs.Common.{◌≡◌, map, take}
use Rattle.chess_bindings.specs.Saved.{cut_report, unplaced}
use Rattle.chess_bindings.proofs.saved.list_cuts.Given as goal

-- those so far are listed
abbrev pub invariant-loop-cut : goal.invariant-loop-cut
invariant-loop-cut g l = map unplaced l.reports.items ≡ map cut_report (take l.cut-index l.found.cuts.items)

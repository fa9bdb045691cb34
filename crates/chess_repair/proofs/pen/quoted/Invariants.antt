use Rattle.std.proofs.Common.{◌≡◌, ◌++◌, map, take}
use Rattle.std.specs.Prelude.{codes}
use Rattle.chess_repair.specs.Words.{quiet}
use Rattle.chess_repair.proofs.pen.quoted.Given as goal

abbrev pub invariant-loop-b : goal.invariant-loop-b
invariant-loop-b g l = l.text.items ≡ codes "{" ++ (l.head ++ map quiet (take l.b-index l.was))

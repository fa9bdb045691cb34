-- The numbers of the faults.
use Rattle.std.specs.Prelude.{ℕ}
use Rattle.chess_tree.specs.declared.fault.TreeFault.{TreeFault}
use Rattle.chess_tree.specs.declared.fault.TreeFault.TheVariants.{NoSuch, AtRoot, Full, BadComment, Memory}

-- a fault's number
abbrev pub number_of : TreeFault → ℕ
number_of NoSuch = 1
number_of AtRoot = 2
number_of Full = 3
number_of BadComment = 4
number_of Memory = 5

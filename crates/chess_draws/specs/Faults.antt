-- The numbers of the faults.
use Rattle.std.specs.Prelude.{ℕ}
use Rattle.chess_draws.specs.declared.fault.LineFault.{LineFault}
use Rattle.chess_draws.specs.declared.fault.LineFault.TheVariants.{Illegal, TooLong, Memory}

-- a fault's number
abbrev pub line_fault_number : LineFault → ℕ
line_fault_number Illegal = 1
line_fault_number TooLong = 2
line_fault_number Memory = 3

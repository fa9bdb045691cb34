-- The numbers of the faults.
use Rattle.std.specs.Prelude.{ℕ}
use Rattle.chess_san.specs.declared.fault.SanFault.{SanFault}
use Rattle.chess_san.specs.declared.fault.SanFault.TheVariants.{Form, Illegal, Ambiguous}

-- a fault's number
abbrev pub san_fault_number : SanFault → ℕ
san_fault_number Form = 1
san_fault_number Illegal = 2
san_fault_number Ambiguous = 3

-- What a run's end means to the system: the exit status, and the line for the standard error.
use Rattle.std.specs.Prelude.{ℕ, List, ◌++◌, codes, decimal}
use Rattle.chess_items.specs.declared.fault.PgnFault.{PgnFault}
use Rattle.chess_items.specs.Faults.{fault_number, name_of}
use Rattle.chess_cli.specs.declared.ended.Ended.{Ended}
use Rattle.chess_cli.specs.declared.ended.Ended.TheVariants.{Good, Input, ReadFault, WriteFault, Memory}

-- the exit status
abbrev pub status_of : Ended → ℕ
status_of Good = 0
status_of (Input fault) = 2
status_of ReadFault = 3
status_of WriteFault = 3
status_of Memory = 3

-- the place in bytes from the input's beginning, and the kind by number and name
abbrev pub fault_text : PgnFault → List ℕ
fault_text fault = codes "fault " ++ decimal fault.place ++ codes " " ++ decimal (fault_number fault.kind) ++ codes " " ++ name_of fault.kind

-- without a line feed; empty where there is nothing to report
abbrev pub message_of : Ended → List ℕ
message_of Good = codes ""
message_of (Input fault) = fault_text fault
message_of ReadFault = codes "read fault"
message_of WriteFault = codes "write fault"
message_of Memory = codes "out of memory"

-- The numbers and the names of the faults.
use Rattle.std.specs.Prelude.{ℕ, List, codes}
use Rattle.chess_items.specs.declared.fault.FaultKind.{FaultKind}
use Rattle.chess_items.specs.declared.fault.FaultKind.TheVariants.{Token, Tag, Move, Variation, Deep, Truncated, Fen, Memory, TooLarge}

-- a fault's number and its name
abbrev pub number_and_name : FaultKind → ℕ × List ℕ
number_and_name Token = (1, codes "Token")
number_and_name Tag = (2, codes "Tag")
number_and_name Move = (3, codes "Move")
number_and_name Variation = (4, codes "Variation")
number_and_name Deep = (5, codes "Deep")
number_and_name Truncated = (6, codes "Truncated")
number_and_name Fen = (7, codes "Fen")
number_and_name Memory = (8, codes "Memory")
number_and_name TooLarge = (9, codes "TooLarge")

-- a fault's number
abbrev pub fault_number : FaultKind → ℕ
fault_number fault = (number_and_name fault).0

-- a fault's name
abbrev pub name_of : FaultKind → List ℕ
name_of fault = (number_and_name fault).1

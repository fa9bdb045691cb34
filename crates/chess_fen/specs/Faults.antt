-- The numbers and the names of the faults, and which fault of a FEN a fault of a position is.
use Rattle.std.specs.Prelude.{ℕ, List, codes}
use Rattle.chess_types.specs.declared.board.faults.PositionFault.{PositionFault}
use Rattle.chess_types.specs.declared.board.faults.PositionFault.TheVariants as Position
use Rattle.chess_fen.specs.declared.fault.FenFault.{FenFault}
use Rattle.chess_fen.specs.declared.fault.FenFault.TheVariants.{Fields, Placement, Kings, PawnRank, TooManyMen, Side, Castling, Target, Counter, InCheck}

-- a fault's number and its name
abbrev pub fen_fault_row : FenFault → ℕ × List ℕ
fen_fault_row Fields = (1, codes "Fields")
fen_fault_row Placement = (2, codes "Placement")
fen_fault_row Kings = (3, codes "Kings")
fen_fault_row PawnRank = (4, codes "PawnRank")
fen_fault_row TooManyMen = (5, codes "TooManyMen")
fen_fault_row Side = (6, codes "Side")
fen_fault_row Castling = (7, codes "Castling")
fen_fault_row Target = (8, codes "Target")
fen_fault_row Counter = (9, codes "Counter")
fen_fault_row InCheck = (10, codes "InCheck")

-- a fault's number
abbrev pub fen_fault_number : FenFault → ℕ
fen_fault_number fault = (fen_fault_row fault).0

-- a fault's name
abbrev pub fen_fault_name : FenFault → List ℕ
fen_fault_name fault = (fen_fault_row fault).1

-- of the field that spells what is wrong
abbrev pub fault_of : PositionFault → FenFault
fault_of Position.Kings = Kings
fault_of Position.PawnRank = PawnRank
fault_of Position.TooManyMen = TooManyMen
fault_of Position.Rights = Castling
fault_of Position.Target = Target
fault_of Position.Counters = Counter
fault_of Position.InCheck = InCheck

-- The refusals of the board: their numbers and names.
use Rattle.std.specs.Prelude.{ℕ, List, codes}
use Rattle.chess_fen.specs.Faults.{fen_fault_row}
use Rattle.chess_san.specs.declared.fault.SanFault.{SanFault}
use Rattle.chess_san.specs.declared.fault.SanFault.TheVariants as san
use Rattle.chess_tree.specs.declared.fault.TreeFault.{TreeFault}
use Rattle.chess_tree.specs.declared.fault.TreeFault.TheVariants as tree
use Rattle.chess_tree.specs.declared.fault.PlayFault.{PlayFault}
use Rattle.chess_tree.specs.declared.fault.PlayFault.TheVariants as play
use Rattle.chess_cli.specs.declared.board_command.refusal.Refusal.{Refusal}
use Rattle.chess_cli.specs.declared.board_command.refusal.Refusal.TheVariants.{Fen, Form, NoSuch, Illegal, TooLong, AtRoot, Ambiguous, Full, BadComment, Memory, Command, Argument, LongLine}

-- a refusal's number and its name
abbrev pub refusal_row : Refusal → ℕ × List ℕ
refusal_row (Fen fault) = fen_fault_row fault
refusal_row Form = (1, codes "Form")
refusal_row NoSuch = (1, codes "NoSuch")
refusal_row Illegal = (2, codes "Illegal")
refusal_row TooLong = (2, codes "TooLong")
refusal_row AtRoot = (2, codes "AtRoot")
refusal_row Ambiguous = (3, codes "Ambiguous")
refusal_row Full = (3, codes "Full")
refusal_row BadComment = (4, codes "BadComment")
refusal_row Memory = (5, codes "Memory")
refusal_row Command = (6, codes "Command")
refusal_row Argument = (7, codes "Argument")
refusal_row LongLine = (8, codes "LongLine")

-- a refusal's number
abbrev pub refusal_number : Refusal → ℕ
refusal_number refusal = (refusal_row refusal).0

-- a refusal's name
abbrev pub refusal_name : Refusal → List ℕ
refusal_name refusal = (refusal_row refusal).1

-- a fault of a tree, as the board reports it
abbrev pub tree_refusal : TreeFault → Refusal
tree_refusal tree.NoSuch = NoSuch
tree_refusal tree.AtRoot = AtRoot
tree_refusal tree.Full = Full
tree_refusal tree.BadComment = BadComment
tree_refusal tree.Memory = Memory

-- why a move isn't played, as the board reports it
abbrev pub play_refusal : PlayFault → Refusal
play_refusal play.Illegal = Illegal
play_refusal play.TooLong = TooLong
play_refusal play.Full = Full
play_refusal play.Memory = Memory

-- a text that names no one move, as the board reports it
abbrev pub san_refusal : SanFault → Refusal
san_refusal san.Form = Form
san_refusal san.Illegal = Illegal
san_refusal san.Ambiguous = Ambiguous

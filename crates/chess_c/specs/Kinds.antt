-- What sort of move a legal one is, and which side can't mate.
--   kinds_there    the sorts, added up: 1 for a capture, 2 en passant, 4 and 8 for castling to the king's and the queen's side, 16 for a pawn's move
--   IsOfKinds      they are written, or the move isn't legal
--   IsUnable       whether a side can't mate is written, where the number is a colour
use Rattle.std.specs.Prelude.{◌≡◌, ℕ, ◌+◌, Bool, true, false, if◌then◌else◌, Option, Some, None, is_some}
use Rattle.chess_types.specs.declared.board.man.Colour.{Colour}
use Rattle.chess_types.specs.declared.board.man.Man.{Man}
use Rattle.chess_types.specs.declared.board.position.Wing.TheVariants.{KingSide, QueenSide}
use Rattle.chess_types.specs.board.After.{captured_at, is_castling, is_en_passant}
use Rattle.chess_types.specs.board.Legal.{is_legal}
use Rattle.chess_types.specs.board.Mating.{cannot_mate}
use Rattle.chess_types.specs.board.Men.{is_pawn}
use Rattle.chess_types.specs.board.MoveParts.{MoveParts}
use Rattle.chess_types.specs.board.Position.{PositionParts, man_on}
use Rattle.chess_bindings.specs.Codes.{argument, not_legal, ok}

-- the number of a sort, where the move is of it
abbrev pub sort : Bool → ℕ → ℕ
sort is_one number = if is_one then number else 0

-- of a move of the man (FIDE Laws 3.1, 3.7.3.1, 3.8.2)
abbrev pub kinds_of : PositionParts → Man → MoveParts → ℕ
kinds_of p man m =
    sort (is_some (man_on p (captured_at p.target man m))) 1 + sort (is_en_passant p.target man m) 2 + sort (is_castling man KingSide m) 4
    + sort (is_castling man QueenSide m) 8 + sort (is_pawn man.kind) 16

-- by what stands on the move's first square
abbrev pub kinds_there : PositionParts → Option Man → MoveParts → ℕ
kinds_there p None m = 0
kinds_there p (Some man) m = kinds_of p man m

-- by whether the move is legal
abbrev pub KindsIf : Bool → PositionParts → MoveParts → (code said said' : ℕ) → Type 0
KindsIf true p m code said said' = (code ≡ ok) × (said' ≡ kinds_there p (man_on p m.from) m)
KindsIf false p m code said said' = (code ≡ not_legal) × (said' ≡ said)

-- three numbers that are no move are no legal one
abbrev pub IsOfKinds : Option MoveParts → PositionParts → (code said said' : ℕ) → Type 0
IsOfKinds None p code said said' = (code ≡ not_legal) × (said' ≡ said)
IsOfKinds (Some m) p code said said' = KindsIf (is_legal p m) p m code said said'

-- whether the side can't mate any more (FIDE Laws 6.9)
abbrev pub IsUnable : Option Colour → PositionParts → (code : ℕ) → (said said' : Bool) → Type 0
IsUnable None p code said said' = (code ≡ argument) × (said' ≡ said)
IsUnable (Some side) p code said said' = (code ≡ ok) × (said' ≡ cannot_mate p side)

-- What the words after `position` lead to in the code.
--   Places   the line is placed, or there is none; or there is no memory, where `grows` holds
--   Begins   the same of a line that is returned, on which no move is looked at
use Rattle.std.specs.Prelude.{◌≡◌, Option, Some, None, Result, Ok, Err}
use Rattle.chess_types.specs.board.Lines.{Line}
use Rattle.chess_draws.specs.LineParts.{LineParts}
use Rattle.chess_uci.specs.declared.placing.PlaceFault.{PlaceFault}
use Rattle.chess_uci.specs.declared.placing.PlaceFault.TheVariants.{Refused, Memory}

-- how a place is answered: with the line now, refused, or for want of memory where that is asked for
abbrev pub Places : {X : Type 0} → Type 0 → Option Line → Line → Result X PlaceFault → Type 0
Places grows line now (Ok x) = line ≡ Some now
Places grows line now (Err Refused) = line ≡ None
Places grows line now (Err Memory) = grows

-- how a line is begun: with no move looked at, refused, or for want of memory where that is asked for
abbrev pub Begins : Type 0 → Option Line → Result LineParts PlaceFault → Type 0
Begins grows line (Ok parts) = (line ≡ Some parts.line) × (parts.looked ≡ 0)
Begins grows line (Err Refused) = line ≡ None
Begins grows line (Err Memory) = grows

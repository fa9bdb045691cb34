-- Games of a source, one after another.
--   HasKind   one fault is of the same kind as another
--   staying   the fault from which no bytes may be passed over
use Rattle.std.specs.Prelude.{◌≡◌, Option, Some, None, ⊤}
use Rattle.chess_items.specs.declared.fault.FaultKind.{FaultKind}
use Rattle.chess_items.specs.declared.fault.FaultKind.TheVariants.{Memory}
use Rattle.chess_pgn.specs.declared.games.GamesFault.{GamesFault}
use Rattle.chess_pgn.specs.declared.games.GamesFault.TheVariants.{Pgn, Read}

abbrev pub HasKind : GamesFault → GamesFault → Type 0
HasKind (Pgn fault) (Pgn other) = other.kind ≡ fault.kind
HasKind (Pgn fault) Read = ⊥
HasKind Read (Pgn other) = ⊥
HasKind Read Read = ⊤

-- want of memory stays, and is reported again
abbrev pub staying_kind : GamesFault → FaultKind → Option GamesFault
staying_kind fault Memory = Some fault
staying_kind fault _ = None

abbrev pub staying : Option GamesFault → Option GamesFault
staying None = None
staying (Some Read) = Some Read
staying (Some (Pgn fault)) = staying_kind (Pgn fault) fault.kind

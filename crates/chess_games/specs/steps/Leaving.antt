-- Why reading ends at a fault, step by step.
--   IsFor      a fault of a reader after which it doesn't go on, and the failure that it is
--   NotPassed  why a bad game isn't passed over, from its first byte: a read failed, or there may be no more, or there was no memory; each read was made where
--              the bytes before it don't decide how much is given up
use Rattle.std.specs.Prelude.{◌≡◌, ℕ, Bool, List, ⊤}
use Rattle.chess_items.specs.Abandoned.{GoesFurther}
use Rattle.chess_items.specs.Coming.{AtHand, BreaksWhere, CameWhere}
use Rattle.chess_items.specs.declared.fault.FaultKind.TheVariants as lacks
use Rattle.chess_pgn.specs.declared.games.GamesFault.{GamesFault}
use Rattle.chess_pgn.specs.declared.games.GamesFault.TheVariants.{Pgn, Read}
use Rattle.chess_command_line.specs.declared.collection.Failure.{Failure}
use Rattle.chess_command_line.specs.declared.collection.Failure.TheVariants as by

abbrev pub IsFor : Failure → GamesFault → Type 0
IsFor by.Read Read = ⊤
IsFor by.Memory (Pgn fault) = fault.kind ≡ lacks.Memory
IsFor _ _ = ⊥

abbrev pub NotPassed : {R : Type 0} → (R → List ℕ → R → Type 0) → (R → Bool) → AtHand R → AtHand R → Failure → Type 0
NotPassed gives failed before new by.Read = BreaksWhere GoesFurther gives failed before new
NotPassed gives failed before new by.Write = ⊥
NotPassed gives failed before new by.Memory = CameWhere GoesFurther gives failed before new

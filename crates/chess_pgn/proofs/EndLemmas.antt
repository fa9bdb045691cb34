-- The game at the end of the input.
use Rattle.std.proofs.Common.{◌≡◌, Bool, false, not, List, [], ◌∷◌, refl}
use Rattle.chess_pgn.specs.steps.ReaderCode.{Finishes, begins_when}
use Rattle.chess_pgn.specs.steps.Readings.{is_nil}
use Rattle.chess_pgn.specs.declared.reader.Reader.{Reader}
use Rattle.chess_pgn.specs.declared.reader.moves.Interrupted.{Interrupted}

none_open : (is : List Interrupted) (b : Bool) → b ≡ not (is_nil is) → b ≡ false → is ≡ []
none_open [] b e f = refl
none_open (i ∷ is) b e f = absurd cc

pub finished : {A : Type 0} (old reader : Reader A) (b : Bool) → begins_when old.moving old reader → b ≡ not (is_nil old.moves.interrupted.items) → b ≡ false → Finishes old reader
finished old reader b begins e f = λ game ends. record { reader = reader; begins = begins; closed = none_open old.moves.interrupted.items b e f; ends = ends }

use Rattle.chess_theorems.proofs.DeadLemmas.{dead_stays}
use Rattle.chess_theorems.proofs.EscapeLemmas.{dead_forever, dead_no_mate, two_kings}
use Rattle.chess_theorems.proofs.dead.dead_laws.Goals as goal

pub returns : goal.returns
returns c = record { stays = dead_stays; no_mate = dead_no_mate; forever = dead_forever; two_kings = two_kings }

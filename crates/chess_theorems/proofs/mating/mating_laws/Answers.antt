use Rattle.chess_theorems.proofs.MatingLemmas.{never_mates}
use Rattle.chess_theorems.proofs.mating.mating_laws.Goals as goal

pub returns : goal.returns
returns c = record { never = never_mates }

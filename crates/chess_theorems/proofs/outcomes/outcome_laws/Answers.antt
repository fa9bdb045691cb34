use Rattle.chess_theorems.proofs.OutcomeLemmas.{claims_agree, claims_end, draws_were_claimable, mate_is_mate, stalemate_is_none}
use Rattle.chess_theorems.proofs.outcomes.outcome_laws.Goals as goal

pub returns : goal.returns
returns c = record { mate = mate_is_mate; stalemate = stalemate_is_none; draws = draws_were_claimable; over = claims_end; claims = claims_agree }

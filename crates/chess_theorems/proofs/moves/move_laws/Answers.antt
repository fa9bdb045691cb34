use Rattle.chess_theorems.proofs.ArmyLemmas.{armies_stay, men_never_rise, pawns_never_rise}
use Rattle.chess_theorems.proofs.CastledLemmas.{castling_is_sound}
use Rattle.chess_theorems.proofs.CountLemmas.{clock_counts, number_counts, rights_are_lost, taken_at_once}
use Rattle.chess_theorems.proofs.moves.move_laws.Goals as goal

pub returns : goal.returns
returns c = record {
  men = men_never_rise;
  pawns = pawns_never_rise;
  armies = armies_stay;
  rights = rights_are_lost;
  castling = castling_is_sound;
  en_passant = taken_at_once;
  clock = clock_counts;
  number = number_counts;
}

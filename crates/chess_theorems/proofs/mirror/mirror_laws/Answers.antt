use Rattle.chess_types.specs.board.Position.{man_on}
use Rattle.chess_types.specs.board.Men.{opponent}
use Rattle.chess_eval.specs.Mirror.{across}
use Rattle.chess_theorems.proofs.SeenAttacks.{check_across, count_across}
use Rattle.chess_theorems.proofs.RankTurns.{after_turns, legal_turns, mate_turns, over_ranks, seen}
use Rattle.chess_theorems.proofs.TurnLines.{claims_turn, repetitions_turn, status_turns}
use Rattle.chess_theorems.proofs.mirror.mirror_laws.Goals as goal

pub returns : goal.returns
returns c = record {
  counts = λ p q both. count_across across opponent over_ranks (man_on p) (man_on q) (seen both).board;
  checks = λ p q both. check_across across opponent over_ranks (man_on p) (man_on q) (seen both).board;
  legal = legal_turns;
  after = after_turns;
  mate = mate_turns;
  lines = λ line other well both moves listed.
      (repetitions_turn line other well both moves listed, status_turns line other well both moves listed, claims_turn line other well both moves listed);
}

use Rattle.chess_types.specs.board.Position.{man_on}
use Rattle.chess_theorems.specs.FlipLaws.{flip}
use Rattle.chess_theorems.proofs.SeenAttacks.{check_across, count_across}
use Rattle.chess_theorems.proofs.FileTurns.{after_flips, legal_flips, mate_flips, over_files, own, seen}
use Rattle.chess_theorems.proofs.flip.flip_laws.Goals as goal

pub returns : goal.returns
returns c = record {
  counts = λ p q both. count_across flip own over_files (man_on p) (man_on q) (seen both).board;
  checks = λ p q both. check_across flip own over_files (man_on p) (man_on q) (seen both).board;
  legal = legal_flips;
  after = after_flips;
  mate = mate_flips;
}

use Rattle.chess_types.specs.board.Board.{man_at}
use Rattle.chess_types.specs.board.Men.{holds_pawn}
use Rattle.chess_types.specs.steps.KeptSets.{holds_king, holds_straight}
use Rattle.chess_draws.specs.steps.RepetitionKeys.{holds_straight_or_king, holds_short}
use Rattle.chess_draws.proofs.SetLemmas.{both_gather, straight_or_king, pawn_or_king}
use Rattle.chess_draws.proofs.men.MenSets.of.Goals as goal

pub returns : goal.returns
returns c = record {
  white = c.of.ensures;
  black = c.of-2.ensures;
  straight = both_gather holds_straight holds_king holds_straight_or_king c.straight.result c.both_kings-kings.result c.union.result (man_at c.args.placement.now) c.straight.ensures c.both_kings-kings.ensures straight_or_king c.union.ensures;
  diagonal = c.diagonal.ensures;
  short = both_gather holds_pawn holds_king holds_short c.both_pawns.result c.both_kings-kings.result c.union-2.result (man_at c.args.placement.now) c.both_pawns.ensures c.both_kings-kings.ensures pawn_or_king c.union-2.ensures;
}

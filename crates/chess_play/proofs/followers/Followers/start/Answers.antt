use Rattle.std.proofs.Common.{subst}
use Rattle.chess_types.specs.board.Board.{Board}
use Rattle.chess_types.specs.board.Position.{start}
use Rattle.chess_key.specs.Keys.{IsKeyOf}
use Rattle.chess_play.proofs.followers.Followers.start.Goals as goal

pub returns-clause-agrees : goal.returns-clause-agrees
unfolding start
returns-clause-agrees c = record {
  counts = c.start.ensures.agrees;
  sums = c.start-2.ensures;
  key = subst (λ (board : Board). IsKeyOf c.of.result board) c.start-3.ensures c.of.ensures.agrees;
}

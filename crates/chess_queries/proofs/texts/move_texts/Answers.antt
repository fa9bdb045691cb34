use Rattle.std.proofs.Common.{◌∙◌}
use Rattle.chess_queries.proofs.CopyLemmas.{listed_here}
use Rattle.chess_queries.proofs.texts.move_texts.Goals as goal

pub write_move-san-requires : goal.write_move-san-requires
write_move-san-requires g c = record {
  legal = listed_here c.args.line.now.line c.loop-played.line.line c.as_slice-played-items.result.now c.loop-played.played-index c.played-item.result
      (c.as_slice-played-items.ensures.value ∙ c.moves-moves.ensures.listed) c.loop-played.invariant.as_before.line c.loop-played-test.true c.played-item.is;
}

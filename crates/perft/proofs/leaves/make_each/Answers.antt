use Rattle.std.proofs.Common.{◌+◌, ◌-◌, drop, ap, ◌∙◌, refl, arith}
use Rattle.std.proofs.Math.ListN.{drop_of_length-le}
use Rattle.chess_types.specs.board.Position.{PositionParts}
use Rattle.chess_types.specs.board.After.{after}
use Rattle.perft.proofs.LeafLemmas.{counted_begin, counted_next, counted_end, next_move, next_pseudo, no_ply}
use Rattle.perft.proofs.leaves.make_each.Goals as goal

pub loop-m-init : goal.loop-m-init
loop-m-init c = record {
  position = c.moves_into.ensures.position;
  words = c.moves_into.ensures.words;
  counted = counted_begin c.args.live.now.position 1 c.as_slice-m-items.result.now (omega arith) (c.as_slice-m-items.ensures.value ∙ c.moves_into.ensures.listed);
}

pub make-made-requires-clause-pseudo : goal.make-made-requires-clause-pseudo
make-made-requires-clause-pseudo c =
    next_pseudo c.loop-m.invariant.counted c.loop-m.invariant.position c.m-item.result (drop (c.loop-m.m-index + 1) c.as_slice-m-items.result.now)
    (next_move c.as_slice-m-items.result.now c.loop-m.m-index c.m-item.result c.m-item.is (omega arith))

pub undo-requires : goal.undo-requires
undo-requires c = record { fits = record { before = c.loop-m.live.position; is_before = c.make-made.ensures.is_before } }

pub loop-m-preserved : goal.loop-m-preserved
loop-m-preserved c = record {
  position = c.undo.ensures.position c.loop-m.live.position c.make-made.ensures.is_before ∙ c.loop-m.invariant.position;
  words = c.undo.ensures.words ∙ c.make-made.ensures.words ∙ c.loop-m.invariant.words;
  counted = counted_next c.loop-m.invariant.counted c.m-item.result (drop (c.loop-m.m-index + 1) c.as_slice-m-items.result.now)
      c.make-made.new.self.position 1 c.saturating_add-number.result
      (next_move c.as_slice-m-items.result.now c.loop-m.m-index c.m-item.result c.m-item.is (omega arith))
      (c.make-made.ensures.position ∙ ap (λ (s : PositionParts). after s c.m-item.result) c.loop-m.invariant.position)
      (no_ply c.make-made.new.self.position (1 - 1) refl) c.saturating_add-number.ensures;
}

pub returns-clause-value : goal.returns-clause-value
returns-clause-value c = counted_end c.loop-m.invariant.counted (drop_of_length-le c.as_slice-m-items.result.now c.loop-m-test.false)

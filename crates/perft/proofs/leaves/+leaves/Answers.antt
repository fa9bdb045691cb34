use Rattle.std.proofs.Common.{ℕ, ◌+◌, ◌-◌, ◌^◌, min, drop, sym, ap, subst, ◌∙◌, arith}
use Rattle.std.proofs.Math.ListN.{drop_of_length-le}
use Rattle.chess_types.specs.board.Position.{PositionParts}
use Rattle.chess_types.specs.board.After.{after}
use Rattle.chess_play.specs.Records.{IsBefore}
use Rattle.perft.specs.Leaves.{leaves_of}
use Rattle.perft.proofs.LeafLemmas.{counted_begin, counted_next, counted_end, next_move, next_pseudo, no_ply, clock_room, number_room}
use Rattle.perft.proofs.leaves.+leaves.Goals as goal

pub returns-then-depth-eq0-clause-value : goal.returns-then-depth-eq0-clause-value
returns-then-depth-eq0-clause-value t c = no_ply c.args.live.now.position c.args.depth c.if-depth-eq0.true

pub returns-then-depth-eq1-clause-value : goal.returns-then-depth-eq1-clause-value
returns-then-depth-eq1-clause-value t c =
    c.last_ply.ensures.value ∙ ap (λ (n : ℕ). min (leaves_of n c.args.live.now.position) (2 ^ 64 - 1)) (sym c.if-depth-eq1.true)

pub loop-m-init : goal.loop-m-init
loop-m-init t c = record {
  position = c.moves_into.ensures.position;
  words = c.moves_into.ensures.words;
  counted = counted_begin c.args.live.now.position c.args.depth c.as_slice-m-items.result.now (omega arith) (c.as_slice-m-items.ensures.value ∙ c.moves_into.ensures.listed);
}

pub make-made-requires-clause-pseudo : goal.make-made-requires-clause-pseudo
make-made-requires-clause-pseudo t c =
    next_pseudo c.loop-m.invariant.counted c.loop-m.invariant.position c.m-item.result (drop (c.loop-m.m-index + 1) c.as_slice-m-items.result.now)
    (next_move c.as_slice-m-items.result.now c.loop-m.m-index c.m-item.result c.m-item.is (omega arith))

pub leaves-requires : goal.leaves-requires
leaves-requires t c = (
  omega arith,
  (
    clock_room c.args.live.now.position c.loop-m.live.position c.make-made.new.self.position c.m-item.result c.args.depth c.loop-m.invariant.position c.make-made.ensures.position (omega arith) c.requires.clock,
    number_room c.args.live.now.position c.loop-m.live.position c.make-made.new.self.position c.m-item.result c.args.depth c.loop-m.invariant.position c.make-made.ensures.position (omega arith) c.requires.number,
  ),
)

pub undo-requires : goal.undo-requires
undo-requires t c =
    let before : IsBefore c.leaves.new.live.position c.make-made.result c.loop-m.live.position =
    subst (λ (now : PositionParts). IsBefore now c.make-made.result c.loop-m.live.position) (sym c.leaves.ensures.position) c.make-made.ensures.is_before in
    record { fits = record { before = c.loop-m.live.position; is_before = before } }

pub loop-m-preserved : goal.loop-m-preserved
loop-m-preserved t c =
    let before : IsBefore c.leaves.new.live.position c.make-made.result c.loop-m.live.position =
    subst (λ (now : PositionParts). IsBefore now c.make-made.result c.loop-m.live.position) (sym c.leaves.ensures.position) c.make-made.ensures.is_before in
    record {
      position = c.undo.ensures.position c.loop-m.live.position before ∙ c.loop-m.invariant.position;
      words = c.undo.ensures.words ∙ c.leaves.ensures.words ∙ c.make-made.ensures.words ∙ c.loop-m.invariant.words;
      counted = counted_next c.loop-m.invariant.counted c.m-item.result (drop (c.loop-m.m-index + 1) c.as_slice-m-items.result.now)
          c.make-made.new.self.position c.leaves.result c.saturating_add-count.result
          (next_move c.as_slice-m-items.result.now c.loop-m.m-index c.m-item.result c.m-item.is (omega arith))
          (c.make-made.ensures.position ∙ ap (λ (s : PositionParts). after s c.m-item.result) c.loop-m.invariant.position)
          c.leaves.ensures.value c.saturating_add-count.ensures;
    }

pub returns-clause-value : goal.returns-clause-value
returns-clause-value t c = counted_end c.loop-m.invariant.counted (drop_of_length-le c.as_slice-m-items.result.now c.loop-m-test.false)

use Rattle.std.proofs.Common.{◌≡◌, ◌+◌, ◌<◌, ◌≤◌, List, [], ◌∷◌, ◌++◌, length, drop, sym, ap, ◌∙◌, arith, append_assoc, append-nil, length-append}
use Rattle.chess_types.specs.board.MoveParts.{MoveParts}
use Rattle.chess_moves.specs.steps.Targets.{promotions_between}
use Rattle.chess_moves.proofs.Candidates.{promotions_next, promotions_end}
use Rattle.chess_moves.proofs.listing.add_promotions.Goals as goal

-- there is room for the next
room_of : (list old rest all more : List MoveParts) (m : MoveParts) → rest ≡ (m ∷ []) ++ more → list ++ rest ≡ old ++ all → length old + length all ≤ 432 →
    length list < 432
room_of list old rest all more m first is room =
    omega (arith, ap length is, length-append list rest, length-append old all, ap length first, length-append (m ∷ []) more)

pub push-requires : goal.push-requires
push-requires c = (
  omega arith,
  room_of c.loop-kind.list.items c.args.list.now.items (drop c.loop-kind.kind-index (promotions_between c.args.from c.args.to)) (promotions_between c.args.from c.args.to) _ _
      (promotions_next c.args.from c.args.to c.loop-kind.kind-index (omega arith)).is c.loop-kind.invariant c.requires.room,
)

pub loop-kind-preserved : goal.loop-kind-preserved
loop-kind-preserved c =
    ap (λ (xs : List MoveParts). xs ++ drop (c.loop-kind.kind-index + 1) (promotions_between c.args.from c.args.to)) c.push.ensures.items
    ∙ append_assoc c.loop-kind.list.items _ (drop (c.loop-kind.kind-index + 1) (promotions_between c.args.from c.args.to))
    ∙ ap (λ (xs : List MoveParts). c.loop-kind.list.items ++ xs) (sym (promotions_next c.args.from c.args.to c.loop-kind.kind-index (omega arith)).is)
    ∙ c.loop-kind.invariant

pub returns : goal.returns
returns c = record {
  added = sym (append-nil c.loop-kind.list.items)
      ∙ ap (λ (xs : List MoveParts). c.loop-kind.list.items ++ xs) (sym (promotions_end c.args.from c.args.to c.loop-kind.kind-index (omega arith)))
      ∙ c.loop-kind.invariant;
}

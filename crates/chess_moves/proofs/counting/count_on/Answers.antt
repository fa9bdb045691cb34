use Rattle.std.proofs.Common.{◌≤◌, ◌+◌, List, ℕ, length, filter, ap, ◌∙◌, arith}
use Rattle.std.specs.List.{flat_map, list_all}
use Rattle.chess_types.specs.board.Men.{is_of}
use Rattle.chess_types.specs.board.Legal.{is_legal, moves_from}
use Rattle.chess_types.specs.board.Position.{PositionParts, man_on}
use Rattle.chess_moves.proofs.SetCounts.{count_split}
use Rattle.chess_moves.proofs.Still.{still_first}
use Rattle.chess_moves.proofs.counting.count_on.Goals as goal
use Rattle.chess_moves.proofs.counting.count_on.Given.{Over}
use Rattle.chess_moves.proofs.counting.count_on.Goals.{After-count_from-count}

pub loop-from-init : goal.loop-from-init
loop-from-init g c =
    let p : PositionParts = c.args.live.now.position in
    let xs = c.into_iter-from-iterator.ensures.into_iter_gives ∙ c.iter-from-items.ensures.value in
    record {
      can = tt;
      finite = tt;
      here = record { still = still_first; own = ap (list_all (λ s. is_of p.side (man_on p s))) xs ∙ c.requires.begun.own };
      left = ap (λ (ys : List ℕ). c.args.begun + length (filter (is_legal p) (flat_map moves_from ys))) xs ∙ c.requires.begun.left;
    }

-- what was counted before is no more than all
pub returns-then-count-enough-clause-few : goal.returns-then-count-enough-clause-few
returns-then-count-enough-clause-few g c = omega (arith, c.requires.begun.left)

pub returns-then-count-enough-clause-at_most : goal.returns-then-count-enough-clause-at_most
returns-then-count-enough-clause-at_most g c = omega (arith, c.requires.begun.left, c.requires.few)

-- with those of the next square there are no more than all
counted : (g : Over) (c : After-count_from-count g) → c.loop-from.count + c.count_from-count.result ≤ 432
counted g c =
    let p : PositionParts = c.args.live.now.position in
    omega (
      arith,
      c.requires.few,
      c.count_from-count.ensures.count,
      c.loop-from.invariant.left,
      count_split p c.loop-from.live.position c.in-Some.from c.loop-from.from-iterator c.next.new.self c.loop-from.invariant.here.still.position c.in-Some.ensures.steps,
    )

pub overflow_add-count : goal.overflow_add-count
overflow_add-count g c = omega (arith, counted g (goal.at.overflow_add-count g c).After-count_from-count)

pub returns-then-count-enough-2-clause-at_most : goal.returns-then-count-enough-2-clause-at_most
returns-then-count-enough-2-clause-at_most g c = counted g (goal.at.returns-then-count-enough-2-clause-at_most g c).After-count_from-count

pub returns-clause-at_most : goal.returns-clause-at_most
returns-clause-at_most g c = omega (arith, c.requires.few, c.loop-from.invariant.left)

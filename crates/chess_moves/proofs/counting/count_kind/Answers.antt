use Rattle.std.proofs.Common.{◌≡◌, ◌+◌, ℕ, true, List, [], length, filter, refl, sym, ap, ◌∙◌, arith}
use Rattle.std.proofs.lemmas.Bool.{and_parts}
use Rattle.std.specs.FinSet.{contains}
use Rattle.std.specs.List.{flat_map, list_all}
use Rattle.chess_types.specs.board.Legal.{is_legal, moves_from}
use Rattle.chess_types.specs.board.Position.{PositionParts, man_on, cell_of}
use Rattle.chess_types.specs.board.Squares.{squares}
use Rattle.chess_types.proofs.SameLemmas.{is_man_is}
use Rattle.chess_attack.proofs.Lifted.{OnlyKing, only_king}
use Rattle.chess_moves.specs.steps.Kinds.{legal_from}
use Rattle.chess_moves.proofs.KindCounts.{piece_parts, from_few}
use Rattle.chess_moves.proofs.Reach.{all_in}
use Rattle.chess_moves.proofs.SetCounts.{count_split, plain_count}
use Rattle.chess_moves.proofs.counting.count_kind.Goals as goal
use Rattle.chess_moves.proofs.counting.count_kind.Given.{Over}
use Rattle.chess_moves.proofs.counting.count_kind.Goals.{In-Some, After-len-count}

none_yet : (left all : ℕ) → left ≡ all → 0 + left ≡ all
none_yet left all is = omega (arith, is)

pub loop-from-init : goal.loop-from-init
unfolding squares
loop-from-init g c =
    let p : PositionParts = c.args.live.now.position in
    let xs = c.into_iter-from-iterator.ensures.into_iter_gives ∙ c.iter-from-items.ensures.value in
    record {
      can = tt;
      finite = tt;
      within = ap (list_all (contains c.args.men)) xs ∙ all_in (contains c.args.men) (contains c.args.men) 0 64 (λ s within in_set. in_set);
      left = none_yet (length (filter (is_legal p) (flat_map moves_from c.into_iter-from-iterator.result))) (legal_from p (contains c.args.men))
          (ap (λ (ys : List ℕ). length (filter (is_legal p) (flat_map moves_from ys))) xs);
    }

-- the next square is of the set, and so are those after it
of_set : (g : Over) (c : In-Some g) → (contains c.args.men c.in-Some.from ≡ true) × (list_all (contains c.args.men) c.next.new.self ≡ true)
of_set g c = and_parts _ _ (sym (ap (list_all (contains c.args.men)) c.in-Some.ensures.steps) ∙ c.loop-from.invariant.within)

-- so a man of the kind is there
here : (g : Over) (c : In-Some g) → man_on c.args.live.now.position c.in-Some.from ≡ cell_of c.args.live.now.position.side c.args.kind
here g c =
    let p : PositionParts = c.args.live.now.position in
    is_man_is (man_on p c.in-Some.from) p.side c.args.kind (sym (c.requires.men c.in-Some.from) ∙ (of_set g c).0)

pub piece_targets-requires-clause-stands : goal.piece_targets-requires-clause-stands
piece_targets-requires-clause-stands g c = record {
  here = here g (goal.at.piece_targets-requires-clause-stands g c).In-Some;
  guard = c.requires.guard;
  clock = c.requires.clock;
  number = c.requires.number;
}

-- the size of the set of targets is the number of his moves, so that the moves counted and those still to come are as many as before
next : (g : Over) (c : After-len-count g) → man_on c.args.live.now.position c.in-Some.from ≡ cell_of c.args.live.now.position.side c.args.kind →
    (c.loop-from.count + c.len-count.result) + length (filter (is_legal c.args.live.now.position) (flat_map moves_from c.next.new.self))
    ≡ legal_from c.args.live.now.position (contains c.args.men)
next g c stands =
    let p : PositionParts = c.args.live.now.position in
    let king : OnlyKing (man_on p) p.side c.args.guard.now.king =
    only_king p.placement p.side c.args.guard.now.king (c.requires.setup.kings p.side) c.requires.guard.on_board c.requires.guard.king in
    let one : c.len-count.result ≡ length (filter (is_legal p) (moves_from c.in-Some.from)) =
    plain_count p c.requires.setup c.args.kind c.in-Some.from c.args.guard.now.king (omega arith) stands king c.piece_targets.result c.piece_targets.ensures
    c.len-count.result (piece_parts c.args.kind c.requires.piece).0 c.len-count.ensures.counted in
    omega (arith, one, c.loop-from.invariant.left, count_split p p c.in-Some.from c.loop-from.from-iterator c.next.new.self refl c.in-Some.ensures.steps)

pub overflow_add-count : goal.overflow_add-count
overflow_add-count g c =
    omega (arith, next g (goal.at.overflow_add-count g c).After-len-count (here g (goal.at.overflow_add-count g c).In-Some), from_few c.args.live.now.position c.requires.setup (contains c.args.men))

pub loop-from-preserved : goal.loop-from-preserved
loop-from-preserved g c = record {
  can = tt;
  finite = tt;
  within = (of_set g (goal.at.loop-from-preserved g c).In-Some).1;
  left = next g (goal.at.loop-from-preserved g c).After-len-count (here g (goal.at.loop-from-preserved g c).In-Some);
}

counted : (p : PositionParts) (count all : ℕ) (xs : List ℕ) → xs ≡ [] → count + length (filter (is_legal p) (flat_map moves_from xs)) ≡ all → count ≡ all
counted p count all xs none left = omega (arith, left, ap (λ (ys : List ℕ). length (filter (is_legal p) (flat_map moves_from ys))) none)

pub returns : goal.returns
returns g c =
    let p : PositionParts = c.args.live.now.position in
    let is : c.loop-from.count ≡ legal_from p (contains c.args.men) =
    counted p c.loop-from.count (legal_from p (contains c.args.men)) c.loop-from.from-iterator c.in-None.ensures.steps.0 c.loop-from.invariant.left in
    record { count = is; at_most = omega (arith, is, from_few p c.requires.setup (contains c.args.men)) }

use Rattle.std.proofs.Common.{◌≡◌, ◌∙◌, inl, inr, sym, ap, subst, arith, ℤ, neg_ℤ, to_z, of_z, w32}
use Rattle.std.proofs.lemmas.Int.{ints}
use Rattle.std.specs.FinMap.{insert, remove}
use Rattle.chess_types.specs.board.After.{after}
use Rattle.chess_types.specs.board.Board.{Board, man_at}
use Rattle.chess_types.specs.board.Position.{PositionParts}
use Rattle.chess_types.proofs.MoveLemmas.{legal_pseudo}
use Rattle.chess_eval.specs.Evaluation.{Sums, AreSumsOf, evaluation, for_white, HasArmies, IsWithin}
use Rattle.chess_play.proofs.Facts.{Facts, facts}
use Rattle.chess_search.specs.Scores.{IsValue}
use Rattle.chess_search.specs.Value.{evaluation_for}
use Rattle.chess_search.proofs.FrontierLemmas.{HasSquares, has_squares, armies, evaluated, unchecked_after, same_decided, mapped, goes_on}
use Rattle.chess_moves.proofs.LegalLaws.{legal_well_formed}
use Rattle.chess_search.proofs.frontier.Frontier.answer.Goals.{After-m}
use Rattle.chess_search.proofs.frontier.Frontier.answer.Goals as goal

squares : (c : After-m) → HasSquares c.m.inside.from c.m.inside.to c.args.m
squares c = has_squares c.m.view_is c.m.invariant.0 c.m.invariant.1

does : (c : After-m) → Facts c.args.setup.now c.in_ok-man.man c.args.m
does c =
    facts c.args.setup.now c.args.m c.requires.well_formed.setup (squares c).from (squares c).to c.in_ok-man.man c.in_ok-man.ensures.goes.here (legal_pseudo c.args.setup.now c.args.m c.requires.legal)

board_is : (c : After-m) →
    insert (remove (remove c.setup.inside.placement c.m.inside.to) c.m.inside.from) c.m.inside.to c.in_ok-man.man
    ≡ insert (remove (remove c.args.setup.now.placement c.args.m.to) c.args.m.from) c.args.m.to c.in_ok-man.man
board_is c =
    let placement : c.setup.inside.placement ≡ c.args.setup.now.placement = ap (λ (q : PositionParts). q.placement) c.setup.view_is in
    λ i. insert (remove (remove (placement i) ((squares c).to_is i)) ((squares c).from_is i)) ((squares c).to_is i) c.in_ok-man.man

within : (c : After-m) (sums : Sums) (white : ℤ) →
    AreSumsOf sums (insert (remove (remove c.setup.inside.placement c.m.inside.to) c.m.inside.from) c.m.inside.to c.in_ok-man.man) →
    ((board : Board) → AreSumsOf sums board → HasArmies board → IsWithin 13605 white) → IsWithin 13605 white
within c sums white agrees small =
    let both : HasArmies (insert (remove (remove c.args.setup.now.placement c.args.m.to) c.args.m.from) c.args.m.to c.in_ok-man.man) =
    armies c.args.setup.now c.args.m c.in_ok-man.man c.requires.well_formed.setup (squares c).from (squares c).to (does c) c.in_ok-man.ensures.goes in
    small _ agrees (subst HasArmies (sym (board_is c)) both)

pub after-requires-clause-apart : goal.after-requires-clause-apart
after-requires-clause-apart c =
    let m = (goal.at.after-requires-clause-apart c).After-m in
    λ e. (does m).apart (sym (squares m).from_is ∙ e ∙ (squares m).to_is)

pub for_side-evaluation-requires : goal.for_side-evaluation-requires
for_side-evaluation-requires c =
    let small = within (goal.at.for_side-evaluation-requires c).After-m c.after.result c.white-white.result c.after.ensures c.white-white.ensures.with_armies in
    record { low = omega (arith, ints, small.low, small.high); high = omega (arith, ints, small.low, small.high) }

-- the evaluation after the move, for its side
worth_is : (m : After-m) (sums : Sums) (white evaluated_as : ℤ) →
    AreSumsOf sums (insert (remove (remove m.setup.inside.placement m.m.inside.to) m.m.inside.from) m.m.inside.to m.in_ok-man.man) →
    ((board : Board) → AreSumsOf sums board → HasArmies board → IsWithin 13605 white) → ((board : Board) → AreSumsOf sums board → white ≡ evaluation (man_at board)) →
    evaluated_as ≡ for_white m.setup.inside.side (to_z w32 (of_z w32 white)) → IsValue evaluated_as →
    to_z w32 (of_z w32 evaluated_as) ≡ neg_ℤ (evaluation_for (after m.args.setup.now m.args.m))
worth_is m sums white evaluated_as agrees small of_board value in_range =
    let p = m.args.setup.now in
    let few = within m sums white agrees small in
    let plain : to_z w32 (of_z w32 white) ≡ white = omega (arith, ints, few.low, few.high) in
    let is : to_z w32 (of_z w32 white) ≡ evaluation (man_at (insert (remove (remove p.placement m.args.m.to) m.args.m.from) m.args.m.to m.in_ok-man.man)) =
    plain ∙ of_board _ agrees ∙ ap (λ (b : Board). evaluation (man_at b)) (board_is m) in
    let worth : neg_ℤ (evaluation_for (after p m.args.m)) ≡ for_white p.side (to_z w32 (of_z w32 white)) =
    evaluated p m.args.m m.in_ok-man.man m.requires.well_formed.setup (squares m).from (squares m).to (does m) m.in_ok-man.ensures.goes _ is in
    let told : evaluated_as ≡ for_white p.side (to_z w32 (of_z w32 white)) =
    value ∙ ap (λ s. for_white s (to_z w32 (of_z w32 white))) (ap (λ (q : PositionParts). q.side) m.setup.view_is) in
    omega (arith, ints, in_range.low, in_range.high, told, worth)

pub returns-then-goes_on-clause-answer : goal.returns-then-goes_on-clause-answer
returns-then-goes_on-clause-answer c =
    let m = (goal.at.returns-then-goes_on-clause-answer c).After-m in
    let worth =
    worth_is m c.after.result c.white-white.result c.for_side-evaluation.result c.after.ensures c.white-white.ensures.with_armies c.white-white.ensures.of_board
    c.for_side-evaluation.ensures.value c.for_side-evaluation.ensures.in_range in
    let p = c.args.setup.now in
    let sound = (legal_well_formed p c.args.m c.requires.well_formed.setup (squares m).from (squares m).to c.requires.legal).setup in
    let (some, alive) =
    goes_on p c.args.m c.in_ok-man.man c.requires.well_formed.setup (squares m).from (squares m).to (does m) c.in_ok-man.ensures.goes c.args.self.now.king c.in_ok-man.ensures c.requires.frontier.on_board
    c.requires.frontier.king c.requires.well_formed.quiet c.args.self.now.free c.requires.frontier.free (c.goes_on.ensures.elsewhere c.if-goes_on.true) (c.goes_on.ensures.free c.if-goes_on.true) sound in
    inr (c.goes_on.ensures.free c.if-goes_on.true, record { some = some; alive = alive; evaluated = worth })

pub returns-clause-in_range : goal.returns-clause-in_range
returns-clause-in_range c = mapped c.decided.result (λ x both. both.in_range) c.decided.ensures

pub returns-clause-border : goal.returns-clause-border
returns-clause-border c = mapped c.decided.result (λ x both. both.border) c.decided.ensures

pub returns-clause-answer : goal.returns-clause-answer
returns-clause-answer c =
    let m = (goal.at.returns-clause-answer c).After-m in
    let worth =
    worth_is m c.after.result c.white-white.result c.for_side-evaluation.result c.after.ensures c.white-white.ensures.with_armies c.white-white.ensures.of_board
    c.for_side-evaluation.ensures.value c.for_side-evaluation.ensures.in_range in
    let p = c.args.setup.now in
    mapped c.decided.result
    (λ x both. inl (record {
      quiet =
          unchecked_after p c.args.m c.in_ok-man.man c.requires.well_formed.setup (squares m).from (squares m).to (does m) c.in_ok-man.ensures.goes c.args.self.now.king c.in_ok-man.ensures c.requires.frontier.on_board c.requires.frontier.king
          c.requires.well_formed.quiet;
      decided = same_decided c.args.alpha c.args.beta (neg_ℤ (evaluation_for (after p c.args.m))) x _ _ _ (omega (arith, ints)) (omega (arith, ints)) worth both;
    }))
    c.decided.ensures

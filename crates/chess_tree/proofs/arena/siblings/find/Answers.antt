use Rattle.std.proofs.Common.{sym, ap, ◌∙◌, arith}
use Rattle.chess_types.specs.board.MoveParts.{MoveParts}
use Rattle.chess_tree.specs.GameTree.{is_move}
use Rattle.chess_tree.specs.steps.Grove.{plain}
use Rattle.chess_tree.proofs.FindLemmas.{find_start}
use Rattle.chess_tree.proofs.SiblingLemmas.{child_range, count_is, found_here, found_none, found_on}
use Rattle.chess_tree.proofs.arena.siblings.find.Goals as goal

pub child_count-place-end-requires-clause-there : goal.child_count-place-end-requires-clause-there
child_count-place-end-requires-clause-there g c = c.requires.owner.1.there

pub loop-place-init : goal.loop-place-init
loop-place-init g c = λ below o noted. find_start c.args.played (plain noted below)

pub child-requires : goal.child-requires
child-requires g c = c.requires.owner.1.there

pub played-requires : goal.played-requires
played-requires g c = child_range _ _ c.loop-place.place c.in-Some.child c.requires.owner.0 c.requires.owner.1 (sym c.in-Some.is ∙ c.child.ensures)

pub returns-then-is_move : goal.returns-then-is_move
returns-then-is_move g c = λ below o noted.
    found_here _ _ c.loop-place.place c.in-Some.child c.args.played below noted o (sym c.in-Some.is ∙ c.child.ensures) (c.loop-place.invariant below o noted)
    (ap (λ (m : MoveParts). is_move m c.args.played) (sym c.played.ensures) ∙ sym c.is_move.ensures ∙ c.if-is_move.true)

pub loop-place-preserved : goal.loop-place-preserved
loop-place-preserved g c = λ below o noted.
    found_on _ _ c.loop-place.place c.in-Some.child c.args.played below noted o (sym c.in-Some.is ∙ c.child.ensures) (c.loop-place.invariant below o noted)
    (ap (λ (m : MoveParts). is_move m c.args.played) (sym c.played.ensures) ∙ sym c.is_move.ensures ∙ c.if-is_move.false)

pub returns : goal.returns
returns g c = λ below o noted.
    found_none c.args.played c.loop-place.place below noted (c.loop-place.invariant below o noted) (omega (arith, c.loop-place-test.false, c.child_count-place-end.ensures, count_is _ _ below o))

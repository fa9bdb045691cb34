use Rattle.std.proofs.Common.{ap, sym, subst, ◌∙◌, arith}
use Rattle.std.specs.FinMap.{remove}
use Rattle.chess_types.specs.board.Board.{Board, man_at}
use Rattle.chess_types.proofs.BoardLaws.{clear-none}
use Rattle.chess_eval.specs.Evaluation.{sums_of, Sums}
use Rattle.chess_eval.specs.steps.Changes.{without_man, AreInRange}
use Rattle.chess_eval.proofs.Evaluations.{sums-clear, sums_in_range}
use Rattle.chess_eval.proofs.sum.Sum.cleared.Goals as goal

pub without_man-requires : goal.without_man-requires
without_man-requires c =
    let board = c.args.placement.now in
    let is = sums-clear board c.args.at c.in-Some.man (omega arith) (sym c.get.ensures ∙ c.in-Some.is) in
    subst AreInRange (is ∙ ap (λ (s : Sums). without_man s c.in-Some.man c.args.at) (sym c.requires.agrees)) (sums_in_range (man_at (remove board c.args.at)))

pub returns-in-Some : goal.returns-in-Some
returns-in-Some c =
    let board = c.args.placement.now in
    let is = sums-clear board c.args.at c.in-Some.man (omega arith) (sym c.get.ensures ∙ c.in-Some.is) in
    c.without_man.ensures ∙ ap (λ (s : Sums). without_man s c.in-Some.man c.args.at) c.requires.agrees ∙ sym is

pub returns-in-None : goal.returns-in-None
returns-in-None c =
    c.as_they_are.ensures ∙ c.requires.agrees ∙ ap (λ (b : Board). sums_of (man_at b)) (sym (clear-none c.args.placement.now c.args.at (sym c.get.ensures ∙ c.in-None.is)))

use Rattle.std.proofs.Common.{◌≡◌, ◌≢◌, ◌<◌, ℕ, Some, None, ap, sym, subst, ◌∙◌, arith}
use Rattle.std.specs.FinMap.{get, insert, remove}
use Rattle.chess_types.specs.declared.board.man.Man.{Man}
use Rattle.chess_types.specs.board.Board.{Board, man_at}
use Rattle.chess_types.proofs.BoardLaws.{boards}
use Rattle.chess_eval.specs.Evaluation.{Sums, sums_of}
use Rattle.chess_eval.specs.steps.Changes.{with_man, without_man, AreInRange}
use Rattle.chess_eval.proofs.Evaluations.{sums-clear, sums-put, sums_in_range}
use Rattle.chess_eval.proofs.sum.Sum.after.Goals as goal

module _ (board : Board) (from to : ℕ) (man : Man) (on_board : from < 64) (there : to < 64) (here : get board from ≡ Some man) (apart : from ≢ to) where
  gone : (cleared : Sums) → cleared ≡ sums_of (man_at (remove board to)) → sums_of (man_at (remove (remove board to) from)) ≡ without_man cleared man from
  gone cleared is =
      let still : get (remove board to) from ≡ Some man = grind (arith, boards) in
      sums-clear (remove board to) from man on_board still ∙ ap (λ (s : Sums). without_man s man from) (sym is)

  put : (left : Sums) → left ≡ sums_of (man_at (remove (remove board to) from)) →
      sums_of (man_at (insert (remove (remove board to) from) to man)) ≡ with_man left man to
  put left is =
      let free : get (remove (remove board to) from) to ≡ None = grind (arith, boards) in
      sums-put (remove (remove board to) from) to man there free ∙ ap (λ (s : Sums). with_man s man to) (sym is)

pub without_man-requires : goal.without_man-requires
without_man-requires c =
    let board = c.args.placement.now in
    subst AreInRange (gone board c.args.from c.args.to c.args.man (omega arith) (omega arith) c.requires.here c.requires.apart c.cleared.result c.cleared.ensures)
    (sums_in_range (man_at (remove (remove board c.args.to) c.args.from)))

pub with_man-requires : goal.with_man-requires
with_man-requires c =
    let board = c.args.placement.now in
    let left = gone board c.args.from c.args.to c.args.man (omega arith) (omega arith) c.requires.here c.requires.apart c.cleared.result c.cleared.ensures in
    subst AreInRange (put board c.args.from c.args.to c.args.man (omega arith) (omega arith) c.requires.here c.requires.apart c.without_man.result (c.without_man.ensures ∙ sym left))
    (sums_in_range (man_at (insert (remove (remove board c.args.to) c.args.from) c.args.to c.args.man)))

pub returns : goal.returns
returns c =
    let board = c.args.placement.now in
    let left = gone board c.args.from c.args.to c.args.man (omega arith) (omega arith) c.requires.here c.requires.apart c.cleared.result c.cleared.ensures in
    c.with_man.ensures ∙ sym (put board c.args.from c.args.to c.args.man (omega arith) (omega arith) c.requires.here c.requires.apart c.without_man.result (c.without_man.ensures ∙ sym left))

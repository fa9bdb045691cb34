use Rattle.std.proofs.Common.{◌≡◌, ◌<◌, ◌+◌, ◌∷◌, ◌++◌, ◌∙◌, [], None, arith, get_or, length, refl, sym}
use Rattle.std.proofs.lemmas.List.{length-set, take_all, take_more, take_more_set}
use Rattle.chess_types.specs.steps.KeptSets.{SetsAreKept}
use Rattle.chess_types.specs.board.Board.{man_at}
use Rattle.chess_types.specs.board.Cells.{board_of}
use Rattle.chess_types.proofs.KeptLemmas.{so_far, none_so_far, put_so_far, same_so_far, all_so_far, kept_same}
use Rattle.chess_types.proofs.board.placement.gather.Goals as goal
use Rattle.chess_types.proofs.board.placement.gather.Goals.{in-Some, in_default}

pub loop-number-init : goal.loop-number-init
loop-number-init c = record { same = refl; len = omega arith; kept = c.empty-kept.ensures (so_far c.args.cells.now 0) (none_so_far c.args.cells.now) }

pub loop-number-preserved : goal.loop-number-preserved
loop-number-preserved c =
    let cells = c.args.cells.now in
    let n = c.loop-number.number in
    let kept : SetsAreKept c.match-cell.kept (so_far cells (n + 1)) =
    elim c.match-cell.branch [
      | in-Some w ↦
          rw w.kept-is (w.put.ensures (so_far cells n) (so_far cells (n + 1)) c.loop-number.invariant.kept
          (rw w.from_index.ensures (put_so_far cells n w.in-Some.man w.in-Some.is)))
      | in_default w ↦
          rw w.kept-is (kept_same c.loop-number.kept (so_far cells n) (so_far cells (n + 1)) c.loop-number.invariant.kept (λ s. same_so_far cells n s w.in_default.is))
    ] in
    let len : length cells ≡ 64 = omega arith in
    let within : n < length c.loop-number.contents = omega (arith, c.loop-number.invariant.len) in
    let cell : c.of.result ≡ get_or cells n None = c.of.ensures in
    record {
      same = take_more_set c.loop-number.contents n c.of.result within
          ∙ (λ i. c.loop-number.invariant.same i ++ cell i ∷ [])
          ∙ sym (take_more cells n None (omega arith));
      len = length-set c.loop-number.contents n c.of.result ∙ c.loop-number.invariant.len;
      kept = kept;
    }

pub returns-clause-contents : goal.returns-clause-contents
returns-clause-contents c =
    let cells = c.args.cells.now in
    let len : length cells ≡ 64 = omega arith in
    let n = c.loop-number.number in
    sym (take_all n c.loop-number.contents (omega (arith, c.loop-number.invariant.len, c.loop-number-test.false)))
    ∙ c.loop-number.invariant.same
    ∙ take_all n cells (omega (arith, len, c.loop-number-test.false))

pub returns-clause-kept : goal.returns-clause-kept
returns-clause-kept c =
    let cells = c.args.cells.now in
    let len : length cells ≡ 64 = omega arith in
    kept_same c.loop-number.kept (so_far cells c.loop-number.number) (man_at (board_of cells)) c.loop-number.invariant.kept
    (λ s. all_so_far cells c.loop-number.number s len c.loop-number-test.false)

use Rattle.std.proofs.Common.{◌≡◌, ◌∙◌, inl, inr, true, sym, arith, to_z, of_z, w32}
use Rattle.std.proofs.lemmas.Int.{ints}
use Rattle.chess_types.specs.board.Legal.{is_legal}
use Rattle.chess_types.specs.board.Lines.{last}
use Rattle.chess_search.specs.Value.{worth}
use Rattle.chess_search.specs.steps.Windows.{FitsWindow}
use Rattle.chess_search.proofs.EarlyLemmas.{at_least_one, cut, one_of}
use Rattle.chess_search.proofs.FrontierLemmas.{continued, judged, known_far}
use Rattle.chess_search.proofs.search.Searcher.cut_by.Goals as goal

pub returns-clause-answer : goal.returns-clause-answer
returns-clause-answer g c =
    let line = c.args.line.now.line in
    let claims = c.args.self.now.claims in
    let m = c.args.m in
    let answer = to_z w32 (of_z w32 c.in_ok-answer.answer) in
    let legal : is_legal (last line) m ≡ true = sym c.is_legal.ensures.value ∙ c.if-not-is_legal.false in
    λ distance.
    let fits : FitsWindow c.args.alpha c.args.beta (worth claims 0 line distance m) answer =
    elim (rw (c.live.ensures.position, c.is_legal.ensures.as_before.line) at c.in_ok-answer.ensures.answer) [
      | inl quiet ↦ judged claims line distance m c.args.alpha c.args.beta answer _ _ c.in_ok-answer.answer (omega (arith, ints)) (omega (arith, ints)) (omega (arith, ints)) quiet
      | inr goes ↦ continued claims line distance m c.args.alpha c.args.beta answer c.in_ok-answer.answer (omega (arith, ints)) (omega arith) (omega arith) legal (known_far claims line c.args.frontier.now c.requires.far goes.0) goes.1
    ] in
    cut c.args.alpha c.args.beta answer _ _ (omega (arith, ints)) (omega (arith, ints)) (at_least_one claims line distance m c.requires.playing (omega arith) (omega arith) legal) fits

pub returns-clause-some : goal.returns-clause-some
returns-clause-some g c =
    let legal : is_legal (last c.args.line.now.line) c.args.m ≡ true = sym c.is_legal.ensures.value ∙ c.if-not-is_legal.false in
    one_of c.args.line.now.line c.args.m (omega arith) (omega arith) legal

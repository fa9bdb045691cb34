use Rattle.std.proofs.Common.{◌≡◌, ◌≤◌, false, sym, ◌∙◌, subst, arith}
use Rattle.std.proofs.lemmas.Int.{ints}
use Rattle.chess_search.specs.Value.{counts_drawn}
use Rattle.chess_search.specs.Asked.{tree_size}
use Rattle.chess_search.proofs.EarlyLemmas.{named, two_asked}
use Rattle.chess_search.proofs.FrontierLemmas.{mapped}
use Rattle.chess_search.proofs.search.Searcher.cut_early.Goals as goal

pub returns-then-is_some-clause-answer : goal.returns-then-is_some-clause-answer
returns-then-is_some-clause-answer g c =
    let one : 1 ≡ c.args.depth = omega (arith, c.if-depth-ne1.false) in
    mapped c.cut_by-newest.result
    (λ x fits. named c.args.self.now.claims c.args.depth c.args.line.now.line c.args.distance c.args.alpha c.args.beta x _ _ one (omega (arith, ints)) (omega (arith, ints)) (fits c.args.distance))
    c.cut_by-newest.ensures.answer

pub returns-then-is_some-clause-asked : goal.returns-then-is_some-clause-asked
returns-then-is_some-clause-asked g c =
    let one : 1 ≡ c.args.depth = omega (arith, c.if-depth-ne1.false) in
    let playing : counts_drawn c.args.self.now.claims c.args.line.now.line ≡ false = sym c.requires.drawn ∙ c.if-drawn.false in
    mapped c.cut_by-newest.result
    (λ x some. subst (λ d. 2 ≤ tree_size c.args.self.now.claims d c.args.line.now.line) one (two_asked c.args.self.now.claims c.args.line.now.line playing some))
    c.cut_by-newest.ensures.some

pub returns-clause-answer : goal.returns-clause-answer
returns-clause-answer g c =
    let one : 1 ≡ c.args.depth = omega (arith, c.if-depth-ne1.false) in
    mapped c.cut_by-2.result
    (λ x fits. named c.args.self.now.claims c.args.depth c.args.line.now.line c.args.distance c.args.alpha c.args.beta x _ _ one (omega (arith, ints)) (omega (arith, ints)) (fits c.args.distance))
    (rw c.cut_by-newest.ensures.line.line at c.cut_by-2.ensures.answer)

pub returns-clause-asked : goal.returns-clause-asked
returns-clause-asked g c =
    let one : 1 ≡ c.args.depth = omega (arith, c.if-depth-ne1.false) in
    let playing : counts_drawn c.args.self.now.claims c.args.line.now.line ≡ false = sym c.requires.drawn ∙ c.if-drawn.false in
    mapped c.cut_by-2.result
    (λ x some. subst (λ d. 2 ≤ tree_size c.args.self.now.claims d c.args.line.now.line) one (two_asked c.args.self.now.claims c.args.line.now.line playing some))
    (rw c.cut_by-newest.ensures.line.line at c.cut_by-2.ensures.some)

pub returns-then-evaluation_for-beta-clause-asked : goal.returns-then-evaluation_for-beta-clause-asked
returns-then-evaluation_for-beta-clause-asked g c =
    let one : 1 ≡ c.args.depth = omega (arith, c.if-depth-ne1.false) in
    let playing : counts_drawn c.args.self.now.claims c.args.line.now.line ≡ false = sym c.requires.drawn ∙ c.if-drawn.false in
    mapped c.cut_by.result
    (λ x some. subst (λ d. 2 ≤ tree_size c.args.self.now.claims d c.args.line.now.line) one (two_asked c.args.self.now.claims c.args.line.now.line playing some))
    c.cut_by.ensures.some

pub returns-then-evaluation_for-beta-clause-answer : goal.returns-then-evaluation_for-beta-clause-answer
returns-then-evaluation_for-beta-clause-answer g c =
    let one : 1 ≡ c.args.depth = omega (arith, c.if-depth-ne1.false) in
    mapped c.cut_by.result
    (λ x fits. named c.args.self.now.claims c.args.depth c.args.line.now.line c.args.distance c.args.alpha c.args.beta x _ _ one (omega (arith, ints)) (omega (arith, ints)) (fits c.args.distance))
    c.cut_by.ensures.answer

use Rattle.std.proofs.Common.{arith, w32, to_z, of_z}
use Rattle.std.proofs.lemmas.Int.{ints}
use Rattle.chess_search.specs.Value.{worth}
use Rattle.chess_search.proofs.ReplyLemmas.{reached}
use Rattle.chess_search.proofs.search.Searcher.is_worth.Goals as goal

pub returns-clause-is : goal.returns-clause-is
returns-clause-is g c =
    let r = c.in_ok-answer.ensures.score.in_range in
    let least = c.requires.least in
    reached c.args.least (worth c.args.self.now.claims c.args.depth c.args.line.now.line c.args.distance c.args.m) c.in_ok-answer.answer _ _ (to_z w32 (of_z w32 c.args.least)) (to_z w32 (of_z w32 c.in_ok-answer.answer))
    (omega (arith, ints, least.low, least.high)) (omega (arith, ints, least.low, least.high)) (omega (arith, ints, least.low, least.high)) (omega (arith, ints, r.low, r.high)) c.in_ok-answer.ensures.answer

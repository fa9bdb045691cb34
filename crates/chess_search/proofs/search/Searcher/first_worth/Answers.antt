use Rattle.std.proofs.Common.{◌≡◌, ◌∙◌, sym, arith, true, false, int_le, w32, to_z, of_z}
use Rattle.std.proofs.lemmas.Int.{ints}
use Rattle.chess_search.specs.Value.{worth}
use Rattle.chess_search.proofs.RootLemmas.{listed_legal}
use Rattle.chess_search.proofs.ReplyLemmas.{first_here, first_later}
use Rattle.chess_search.proofs.WatchLemmas.{watched_on}
use Rattle.chess_search.proofs.search.Searcher.first_worth.Goals as goal

pub is_worth-requires-clause-legal : goal.is_worth-requires-clause-legal
is_worth-requires-clause-legal g c =
    listed_legal c.args.line.now.line c.loop-m.line.line c.as_slice-m-items.result.now c.loop-m.m-index c.m-item.result
    (c.as_slice-m-items.ensures.value ∙ c.moves_into.ensures.listed) c.loop-m.invariant.line.line (omega arith) c.m-item.is

pub returns-then-branch-clause-first : goal.returns-then-branch-clause-first
returns-then-branch-clause-first g c =
    let i = c.loop-m.invariant in
    let f = worth c.args.self.now.claims c.args.depth c.args.line.now.line c.args.distance in
    let plain : to_z w32 (of_z w32 c.args.least) ≡ c.args.least = omega (arith, ints, c.requires.least.low, c.requires.least.high) in
    let enough : int_le c.args.least (f c.m-item.result) ≡ true = sym (rw (i.line.line, i.claims, plain) at c.in_ok-is_worth.ensures.is) ∙ c.if-branch.true in
    sym (first_here f (to_z w32 (of_z w32 c.args.least)) c.args.least c.as_slice-m-items.result.now _ c.loop-m.m-index c.m-item.result plain i.none (omega arith) c.m-item.is enough
    (c.as_slice-m-items.ensures.value ∙ c.moves_into.ensures.listed))

pub loop-m-preserved : goal.loop-m-preserved
loop-m-preserved g c =
    let i = c.loop-m.invariant in
    let e = c.in_ok-is_worth.ensures in
    let f = worth c.args.self.now.claims c.args.depth c.args.line.now.line c.args.distance in
    let plain : to_z w32 (of_z w32 c.args.least) ≡ c.args.least = omega (arith, ints, c.requires.least.low, c.requires.least.high) in
    let less : int_le c.args.least (f c.m-item.result) ≡ false = sym (rw (i.line.line, i.claims, plain) at e.is) ∙ c.if-branch.false in
    record {
      line = record { line = e.line.line ∙ i.line.line; looked = e.line.looked ∙ i.line.looked; words = e.line.words ∙ i.line.words; room = e.line.room ∙ i.line.room };
      claims = e.asked.claims ∙ i.claims;
      stays = e.stays ∙ i.stays;
      watched = λ free. watched_on _ _ _ _ _ _ i.stays (i.watched free) e.watched;
      none = first_later f (to_z w32 (of_z w32 c.args.least)) c.args.least c.as_slice-m-items.result.now c.loop-m.m-index c.m-item.result plain i.none (omega arith) c.m-item.is less;
    }

use Rattle.std.proofs.Common.{◌≡◌, ◌-◌, sym, subst, arith, pos, neg_ℤ, ◌-ℤ◌, w32, to_z, of_z}
use Rattle.std.proofs.lemmas.Int.{ints}
use Rattle.chess_types.specs.board.Lines.{extended}
use Rattle.chess_search.specs.Value.{value}
use Rattle.chess_search.specs.Replies.{IsLineOfScore, replies_holding}
use Rattle.chess_search.proofs.ReplyLemmas.{line_of_score}
use Rattle.chess_search.proofs.replies.replies_within.Goals as goal

pub returns-clause-score : goal.returns-clause-score
returns-clause-score g c =
    λ is.
    let line = extended c.args.line.now.line c.args.m in
    let score = neg_ℤ c.args.value in
    let negated : to_z w32 (of_z w32 (pos 0 -ℤ to_z w32 (of_z w32 c.args.value))) ≡ score = omega (arith, ints, c.requires.value.low, c.requires.value.high) in
    let found : c.follow-followed.new.moves.items ≡ replies_holding c.args.claims (c.args.depth - 1) line 1 score =
    rw (c.new-moves.ensures, c.new-searcher.ensures.claims, c.look.ensures.line, negated) at c.in_ok-followed.ensures.replies in
    let value_is : score ≡ value c.args.claims (c.args.depth - 1) line 1 = omega (arith, ints, is) in
    subst (IsLineOfScore c.args.claims (c.args.depth - 1) line 1 score) (sym found) (line_of_score c.args.claims (c.args.depth - 1) line 1 score value_is)

use Rattle.std.proofs.Common.{◌≡◌, ◌∙◌, ◌-◌, refl, sym, arith, false, Some, pos, neg_ℤ, ◌-ℤ◌, w32, to_z, of_z}
use Rattle.std.proofs.lemmas.Int.{ints}
use Rattle.chess_types.specs.board.Legal.{legal_moves}
use Rattle.chess_types.specs.board.Lines.{last}
use Rattle.chess_search.specs.Value.{counts_drawn, worth}
use Rattle.chess_search.specs.Replies.{first_worth}
use Rattle.chess_search.proofs.FrontierLemmas.{mapped}
use Rattle.chess_search.proofs.ReplyLemmas.{found_legal, followed}
use Rattle.chess_search.proofs.WatchLemmas.{watched_on}
use Rattle.chess_search.proofs.search.Searcher.+follow.Goals as goal

pub look-requires-clause-legal : goal.look-requires-clause-legal
look-requires-clause-legal g t c =
    found_legal c.is_drawn.new.self.line c.first_worth.new.line.line (worth c.args.self.now.claims (c.args.depth - 1) c.is_drawn.new.self.line c.args.distance) (to_z w32 (of_z w32 c.args.value)) c.in-Some.m
    (sym c.in_ok-m.ensures.first ∙ c.in-Some.is) c.in_ok-m.ensures.line.line

pub returns-clause-watched : goal.returns-clause-watched
returns-clause-watched g t c =
    λ free.
    let one = c.in_ok-m.ensures.watched free in
    watched_on _ _ _ _ _ _ c.in_ok-m.ensures.stays one (c.follow-followed.ensures.watched (rw c.in_ok-m.ensures.stays one.last))

pub returns-clause-replies : goal.returns-clause-replies
returns-clause-replies g t c =
    let claims = c.args.self.now.claims in
    let line = c.args.line.now.line in
    let plain : to_z w32 (of_z w32 c.args.value) ≡ c.args.value = omega (arith, ints, c.requires.value.low, c.requires.value.high) in
    let negated : to_z w32 (of_z w32 (pos 0 -ℤ to_z w32 (of_z w32 c.args.value))) ≡ neg_ℤ c.args.value = omega (arith, ints, c.requires.value.low, c.requires.value.high) in
    let playing : counts_drawn claims line ≡ false = sym c.is_drawn.ensures.value ∙ c.if-is_drawn.false in
    let found : first_worth (worth claims (c.args.depth - 1) line c.args.distance) c.args.value (legal_moves (last line)) ≡ Some c.in-Some.m =
    sym (rw (c.is_drawn.ensures.as_before.line, plain) at c.in_ok-m.ensures.first) ∙ c.in-Some.is in
    mapped c.follow-followed.result
    (λ x after. followed claims c.args.depth line c.args.distance c.args.value (neg_ℤ c.args.value) c.in-Some.m c.args.moves.now.items c.push.new.self.items c.follow-followed.new.moves.items
    (omega arith) playing found c.push.ensures.items refl after)
    (rw (c.look.ensures.line, c.in_ok-m.ensures.line.line, c.is_drawn.ensures.as_before.line, c.in_ok-m.ensures.claims, negated) at c.follow-followed.ensures.replies)

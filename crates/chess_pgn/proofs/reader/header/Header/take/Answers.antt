use Rattle.std.proofs.Common.{refl, sym, ap, ◌++◌, ◌∷◌, []}
use Rattle.std.specs.Prelude.{Some}
use Rattle.chess_items.specs.steps.Tokens.{item_of}
use Rattle.chess_pgn.specs.steps.HeaderCode.{heading}
use Rattle.chess_pgn.proofs.HeaderLemmas.{passed}
use Rattle.chess_pgn.proofs.reader.header.Header.take.Goals as goal

pub returns-then-passes-clause-ok : goal.returns-then-passes-clause-ok
returns-then-passes-clause-ok g c = λ read finds. (read, passed (heading read c.args.self.now) (item_of c.args.token) (sym c.if-passes.ensures), finds)

pub returns-in_ok-extend_from_slice-in-Name-clause-ok : goal.returns-in_ok-extend_from_slice-in-Name-clause-ok
returns-in_ok-extend_from_slice-in-Name-clause-ok g c = rw (c.in-Name.is, c.in-Name-token.is, c.in_ok-extend_from_slice-in-Name.ensures.items) (λ read finds. (read, refl, finds))

pub returns-in-Quote-clause-ok : goal.returns-in-Quote-clause-ok
returns-in-Quote-clause-ok g c = rw (c.in-Opening.is, c.in-Quote.is) (λ read finds. (read, refl, finds))

pub returns-in_ok-extend_from_slice-in-Stretch-clause-ok : goal.returns-in_ok-extend_from_slice-in-Stretch-clause-ok
returns-in_ok-extend_from_slice-in-Stretch-clause-ok g c = rw (c.in-Value.is, c.in-Stretch.is, c.in_ok-extend_from_slice-in-Stretch.ensures.items) (λ read finds. (read, refl, finds))

pub returns-in_ok-push-in-Escaped-clause-ok : goal.returns-in_ok-push-in-Escaped-clause-ok
returns-in_ok-push-in-Escaped-clause-ok g c = rw (c.in-Value.is, c.in-Escaped.is, c.in_ok-push-in-Escaped.ensures.items) (λ read finds. (read, refl, finds))

pub returns-in-Quote-token-clause-ok : goal.returns-in-Quote-token-clause-ok
returns-in-Quote-token-clause-ok g c = rw (c.in-Value.is, c.in-Quote-token.is) (λ read finds. (read, refl, finds))

pub returns-in_ok-close-in-Closing-clause-ok : goal.returns-in_ok-close-in-Closing-clause-ok
returns-in_ok-close-in-Closing-clause-ok g c = λ read finds.
    let h = c.args.self.now in
    let closed = c.in_ok-close-in-Closing.ensures.ok read finds in
    (read ++ (h.name.items, h.value.items) ∷ [], rw (c.in-Closing.is, c.in-TagClose.is) (ap Some (sym closed.0)), closed.1)

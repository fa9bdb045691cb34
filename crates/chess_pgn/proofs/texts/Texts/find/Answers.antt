use Rattle.std.proofs.Common.{◌∙◌, ap, sym, option_map}
use Rattle.chess_pgn.proofs.KnownLemmas.{known_here, known_of, line_here}
use Rattle.chess_pgn.proofs.texts.Texts.find.Goals as goal

pub returns-then-is_move-clause-known : goal.returns-then-is_move-clause-known
returns-then-is_move-clause-known g c =
    let k = c.in_ok-known.known.now in
    known_of c.args.self.now c.args.place c.args.before k
    (known_here c.self.inside.known.items c.args.self.now c.args.place k c.self.view_is c.self.invariant (sym c.at.ensures ∙ ap (option_map (λ k. k.now)) c.in_ok-known.was)) c.if-known-before.true

pub returns-then-is_move-clause-line : goal.returns-then-is_move-clause-line
returns-then-is_move-clause-line g c =
    let k = c.in_ok-known.known.now in
    line_here c.args.self.now c.args.place c.args.before k c.args.played
    (known_here c.self.inside.known.items c.args.self.now c.args.place k c.self.view_is c.self.invariant (sym c.at.ensures ∙ ap (option_map (λ k. k.now)) c.in_ok-known.was)) c.if-known-before.true (c.is_move.ensures c.if-is_move.true)

pub returns-then-is_move-clause-within : goal.returns-then-is_move-clause-within
returns-then-is_move-clause-within g c =
    let k = c.in_ok-known.known.now in
    (known_here c.self.inside.known.items c.args.self.now c.args.place k c.self.view_is c.self.invariant (sym c.at.ensures ∙ ap (option_map (λ k. k.now)) c.in_ok-known.was)).within

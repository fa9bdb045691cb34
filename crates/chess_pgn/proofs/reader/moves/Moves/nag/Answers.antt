use Rattle.chess_pgn.proofs.StepLemmas.{nag_goes, nag_ignored}
use Rattle.chess_pgn.proofs.reader.moves.Moves.nag.Goals as goal

pub returns-then-not-self : goal.returns-then-not-self
returns-then-not-self g c = λ s h.
    let r = c.args.self.now in
    nag_ignored r.analysis r.interrupted.items r.played r.comments.items r.from c.args.nag s.start s.comment s.forest s.up s.last_move s.here s.lead s.interrupted c.if-not-self.true h

pub returns-in-Ok : goal.returns-in-Ok
returns-in-Ok g c = λ s h.
    let r = c.args.self.now in
    nag_goes r.analysis c.add_nag.new.self r.interrupted.items r.played r.comments.items r.from c.args.nag s.start s.comment s.forest s.up s.last_move s.here s.lead s.interrupted c.if-not-self.false c.in-Ok.ensures h

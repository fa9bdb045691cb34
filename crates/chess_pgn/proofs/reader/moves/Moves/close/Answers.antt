use Rattle.chess_pgn.proofs.StepLemmas.{close_goes}
use Rattle.std.proofs.Common.{arith}
use mathlib.Core.Logic.{inl}
use Rattle.chess_pgn.proofs.RefuseLemmas.{close_fails}
use Rattle.chess_pgn.proofs.reader.moves.Moves.close.Goals as goal

pub returns-clause-steps : goal.returns-clause-steps
returns-clause-steps g c = λ s h.
    let r = c.args.self.now in
    rw (c.resume.ensures.played, c.resume.ensures.interrupted, c.in_ok-note_if.ensures.interrupted, c.resume.ensures.comments)
    (close_goes r.analysis c.note_if.new.self.analysis c.resume.new.self.analysis r.interrupted.items c.pop.new.self.items c.in-Some.line r.played r.comments.items c.note_if.new.self.comments.items r.from c.resume.new.self.from
    c.in-Some.ensures.items c.in_ok-note_if.ensures.analysis c.in_ok-note_if.ensures.comments c.resume.ensures.analysis c.resume.ensures.from
    s.start s.comment s.forest s.up s.last_move s.here s.lead s.interrupted h)

pub returns-in_default-clause-refuses : goal.returns-in_default-clause-refuses
returns-in_default-clause-refuses g c =
    let r = c.args.self.now in
    rw c.at_place.ensures (λ s h es. inl (close_fails r.analysis r.interrupted.items r.played r.comments.items r.from (omega (arith, c.in_default.ensures.cases.0, r.interrupted.ok.0)) s h es))

use Rattle.std.proofs.Common.{arith, ap, ◌∙◌, ◌-◌, ℕ}
use Rattle.std.specs.Prelude.{unwrap_or, Option}
use Rattle.chess_pgn.proofs.StepLemmas.{open_goes, stepped_back}
use mathlib.Core.Logic.{inl, inr}
use Rattle.chess_pgn.proofs.RefuseLemmas.{open_fails, too_deep}
use Rattle.chess_pgn.proofs.reader.moves.Moves.open.Goals as goal

pub returns-clause-steps : goal.returns-clause-steps
returns-clause-steps g c = λ s h.
    let r = c.args.self.now in
    open_goes r.analysis c.back-stepped.new.self r.interrupted.items c.push.new.self.items r.played r.comments.items r.from c.len-self.result c.saturating_sub-depth.result c.unwrap_or-place.result c.known.result
    (omega (arith, c.len.ensures, c.if-len-ge-DEEPEST.false)) c.if-not-self.false
    (c.saturating_sub-depth.ensures ∙ ap (λ (n : ℕ). n - 1) c.depth.ensures)
    (c.unwrap_or-place.ensures ∙ ap (λ (o : Option ℕ). unwrap_or o 0) c.path_at.ensures)
    c.in_ok-push.ensures.items
    (stepped_back c.back-stepped.result r.analysis.path c.back-stepped.ensures.ok c.back-stepped.ensures.at_root)
    (c.len-self.ensures ∙ r.comments.ok.0)
    s.start s.comment s.forest s.up s.last_move s.here s.lead s.interrupted h

pub returns-then-not-self-clause-refuses : goal.returns-then-not-self-clause-refuses
returns-then-not-self-clause-refuses g c =
    let r = c.args.self.now in
    rw c.at_place.ensures (λ s h es. inl (open_fails r.analysis r.interrupted.items r.played r.comments.items r.from c.if-not-self.true s h es))

pub returns-then-len-ge-DEEPEST-clause-refuses : goal.returns-then-len-ge-DEEPEST-clause-refuses
returns-then-len-ge-DEEPEST-clause-refuses g c =
    let r = c.args.self.now in
    rw c.at_place-then-len-ge-DEEPEST.ensures (λ s h es. inr (too_deep r.analysis r.interrupted.items r.played r.comments.items r.from (omega (arith, c.len.ensures, c.if-len-ge-DEEPEST.true)) s h es))

use Rattle.std.proofs.Common.{ap, ◌∙◌, ◌++◌, ◌∷◌, [], List, ℕ, append_assoc}
use Rattle.chess_pgn.proofs.StepLemmas.{remark_goes, remark_leads}
use Rattle.chess_pgn.proofs.reader.moves.Moves.comment.Goals as goal

pub returns-clause-steps : goal.returns-clause-steps
returns-clause-steps g c = λ s h.
    let r = c.args.self.now in
    remark_goes r.analysis r.interrupted.items r.played r.comments.items c.extend_from_slice.new.self.items c.args.text.now r.from s
    (c.in_ok-extend_from_slice.ensures.items ∙ ap (λ (z : List ℕ). z ++ c.args.text.now) c.in_ok-push.ensures.items ∙ append_assoc r.comments.items (32 ∷ []) c.args.text.now) h

pub returns-clause-first : goal.returns-clause-first
returns-clause-first g c = λ start lead h.
    let r = c.args.self.now in
    remark_leads r.analysis r.interrupted.items r.played r.comments.items c.extend_from_slice.new.self.items c.args.text.now r.from start lead
    (c.in_ok-extend_from_slice.ensures.items ∙ ap (λ (z : List ℕ). z ++ c.args.text.now) c.in_ok-push.ensures.items ∙ append_assoc r.comments.items (32 ∷ []) c.args.text.now) h

use Rattle.std.proofs.Common.{ap, ◌∙◌, ◌++◌, ◌∷◌, [], List, ℕ, map, append_assoc}
use Rattle.chess_items.specs.Items.{without_brace}
use Rattle.chess_pgn.proofs.StepLemmas.{remark_goes, remark_leads}
use Rattle.chess_pgn.proofs.reader.moves.Moves.line_comment.Goals as goal

pub returns-clause-steps : goal.returns-clause-steps
returns-clause-steps g c = λ s h.
    let r = c.args.self.now in
    let text = map without_brace c.args.line.now in
    remark_goes r.analysis r.interrupted.items r.played r.comments.items c.push_line.new.text.items text r.from s
    (c.in_ok-push_line.ensures ∙ ap (λ (z : List ℕ). z ++ text) c.in_ok-push.ensures.items ∙ append_assoc r.comments.items (32 ∷ []) text) h

pub returns-clause-first : goal.returns-clause-first
returns-clause-first g c = λ start lead h.
    let r = c.args.self.now in
    let text = map without_brace c.args.line.now in
    remark_leads r.analysis r.interrupted.items r.played r.comments.items c.push_line.new.text.items text r.from start lead
    (c.in_ok-push_line.ensures ∙ ap (λ (z : List ℕ). z ++ text) c.in_ok-push.ensures.items ∙ append_assoc r.comments.items (32 ∷ []) text) h

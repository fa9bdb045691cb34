use Rattle.std.proofs.Common.{◌≡◌, ap, ◌∙◌, List, ℕ, ◌++◌, ◌∷◌, [], append_assoc}
use Rattle.chess_tree.specs.GameTree.{TreeParts, here}
use Rattle.chess_pgn.proofs.SayLemmas.{first_said, next_said, no_bytes, then}
use Rattle.chess_pgn.proofs.reader.late.say.Goals as goal

pub returns-then-is_empty-clause-said : goal.returns-then-is_empty-clause-said
returns-then-is_empty-clause-said g c =
    let t = c.args.analysis.now in
    let said = c.notes.result.comment.now in
    then c.set_comment.result c.set_comment.ensures.ok
    (λ e. e ∙ first_said t c.args.text.now said c.tree.ensures.game
    (c.notes.ensures.comment ∙ ap (λ (z : TreeParts). (here z).comment) c.tree.ensures.tree) (no_bytes said c.if-is_empty.ensures))

pub returns-clause-said : goal.returns-clause-said
returns-clause-said g c =
    let t = c.args.analysis.now in
    let said = c.notes.result.comment.now in
    let text = c.args.text.now in
    let first : c.extend_from_slice.new.self.items ≡ said = c.in_ok-extend_from_slice.ensures.items ∙ ap (λ (z : List ℕ). z ++ said) c.new-both.ensures.items in
    let both : c.as_slice.result.now ≡ said ++ 32 ∷ text =
    c.as_slice.ensures.value ∙ c.in_ok-extend_from_slice-2.ensures.items ∙ ap (λ (z : List ℕ). z ++ text) (c.in_ok-push.ensures.items ∙ ap (λ (z : List ℕ). z ++ 32 ∷ []) first)
    ∙ append_assoc said (32 ∷ []) text in
    then c.set_comment-2.result c.set_comment-2.ensures.ok
    (λ e. e ∙ next_said t text said c.as_slice.result.now c.tree.ensures.game
    (c.notes.ensures.comment ∙ ap (λ (z : TreeParts). (here z).comment) c.tree.ensures.tree) both)

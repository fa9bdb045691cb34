use Rattle.std.proofs.Common.{◌∙◌, ap, List, ℕ, ◌++◌, ◌∷◌, [], append_assoc, arith}
use Rattle.chess_cli.proofs.EventLemmas.{reply_put}
use Rattle.chess_bindings.proofs.answers.lines_of.Goals as goal

pub loop-reply-preserved : goal.loop-reply-preserved
loop-reply-preserved c =
    let text = c.push_str-in-loop-reply.ensures.bytes ∙ ap (λ (t : List ℕ). t ++ 10 ∷ []) c.push_str.ensures.bytes ∙ append_assoc c.loop-reply.text.bytes c.as_str.result.now (10 ∷ []) in
    let put = reply_put [] c.loop-reply.text.bytes c.push_str-in-loop-reply.new.self.bytes c.as_str.result.now c.as_slice-reply-items.result.now c.loop-reply.reply-index c.reply-item.result (omega arith) c.reply-item.is
    c.loop-reply.invariant.text (c.as_str.ensures.value ∙ c.write.ensures) text in
    record { text = put.0; len = omega (arith, put.1, c.as_str.ensures.fits, c.loop-reply.invariant.len) }

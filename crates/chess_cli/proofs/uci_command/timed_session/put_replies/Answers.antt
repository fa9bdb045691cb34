use Rattle.std.proofs.Common.{◌∙◌, arith}
use Rattle.chess_cli.proofs.EventLemmas.{reply_put}
use Rattle.chess_cli.proofs.uci_command.timed_session.put_replies.Goals as goal

pub loop-reply-preserved : goal.loop-reply-preserved
loop-reply-preserved g c =
    let put = reply_put c.args.page.now c.loop-reply.page c.put_line.new.self c.as_str.result.now c.as_slice-reply-items.result.now c.loop-reply.reply-index c.reply-item.result (omega arith) c.reply-item.is
    c.loop-reply.invariant.text (c.as_str.ensures.value ∙ c.write.ensures) c.put_line.ensures in
    record { text = put.0; len = omega (arith, put.1, c.as_str.ensures.fits, c.loop-reply.invariant.len) }

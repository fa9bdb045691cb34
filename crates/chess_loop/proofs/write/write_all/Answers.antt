use Rattle.std.proofs.Common.{arith}
use Rattle.std.proofs.lemmas.Grind.{common_steps}
use Rattle.chess_loop.proofs.SendingLemmas.{sent_call}
use Rattle.chess_loop.proofs.write.write_all.Goals as goal

pub loop-rest-preserved : goal.loop-rest-preserved
loop-rest-preserved g c =
    let rest = c.loop-rest.rest.now in
    let ensures = c.in-Ok.ensures in
    sent_call g.W.Sink.takes g.W.Sink.failed _ _ _ c.args.text.now rest _ c.in-Ok.count c.loop-rest.invariant ensures.takes (grind (arith, common_steps))
    (grind (arith, common_steps, ensures.failed, c.in-Ok.count-test.1))

use Rattle.std.proofs.Common.{arith}
use Rattle.chess_items.proofs.DigitLemmas.{digits_next}
use Rattle.chess_items.proofs.lexer.digits_value.Goals as goal

pub loop-d-preserved : goal.loop-d-preserved
loop-d-preserved c =
    let e = digits_next c.args.digits.now c.loop-d.d-index c.loop-d-test.true in
    omega (arith, e)

use Rattle.std.proofs.Common.{ℕ, rules}
use Rattle.std.specs.FinSet.{contains}
use Rattle.chess_c.specs.Asked.{flag}
use Rattle.chess_c.proofs.PutLemmas.{put_start, put_square, put_squares}
use Rattle.chess_c.proofs.squares.put_set.Goals as goal

pub loop-number-init : goal.loop-number-init
loop-number-init c = put_start _ _

pub loop-number-preserved : goal.loop-number-preserved
loop-number-preserved c =
    put_square (λ (square : ℕ). flag (contains c.args.set square)) c.args.room.now c.loop-number.room c.loop-number.number c.flag.result c.loop-number-test.true c.told-room (search rules) c.loop-number.invariant

pub returns : goal.returns
returns c =
    put_squares (λ (square : ℕ). flag (contains c.args.set square)) c.args.room.now c.loop-number.room c.loop-number.number c.loop-number-test.false c.loop-number.auto.number-end c.told-room c.loop-number.invariant

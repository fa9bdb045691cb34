use Rattle.std.proofs.Common.{rules}
use Rattle.chess_types.specs.board.Attack.{count}
use Rattle.chess_types.specs.board.Position.{man_on}
use Rattle.chess_c.proofs.PutLemmas.{put_start, put_square, put_squares}
use Rattle.chess_c.proofs.squares.put_counts.Goals as goal

pub loop-number-init : goal.loop-number-init
loop-number-init c = put_start _ _

pub loop-number-preserved : goal.loop-number-preserved
loop-number-preserved c =
    put_square (count (man_on c.args.live.now.position) c.args.colour) c.args.room.now c.loop-number.room c.loop-number.number c.count.result c.loop-number-test.true c.told-room (search rules) c.loop-number.invariant

pub returns : goal.returns
returns c =
    put_squares (count (man_on c.args.live.now.position) c.args.colour) c.args.room.now c.loop-number.room c.loop-number.number c.loop-number-test.false c.loop-number.auto.number-end c.told-room c.loop-number.invariant

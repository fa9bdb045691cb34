use Rattle.std.proofs.Common.{ap, sym, ◌∙◌, arith}
use Rattle.chess_types.specs.board.Board.{man_at}
use Rattle.chess_polyglot.proofs.Xors.{men_below, men_below-none, men_below-more, men_below-all}
use Rattle.chess_polyglot.proofs.keys.men_key.Goals as goal

pub loop-square-init : goal.loop-square-init
loop-square-init c = sym (men_below-none (man_at c.args.placement.now))

pub loop-square-preserved : goal.loop-square-preserved
loop-square-preserved c =
    rw (c.number_there-key.ensures, c.from_index.ensures, c.loop-square.invariant) (men_below-more (man_at c.args.placement.now) c.loop-square.square)

pub returns : goal.returns
returns c = c.loop-square.invariant ∙ ap (men_below (man_at c.args.placement.now)) (omega arith) ∙ men_below-all (man_at c.args.placement.now)

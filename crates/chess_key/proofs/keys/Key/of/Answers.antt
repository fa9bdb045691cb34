use Rattle.std.proofs.Common.{◌≡◌, ap, sym, ◌∙◌, arith}
use Rattle.chess_types.specs.board.Board.{Men, man_at}
use Rattle.chess_key.proofs.KeyLaws.{key_below, key_below-none, key_below-more, key_below-all}
use Rattle.chess_key.proofs.keys.Key.of.Goals as goal

pub loop-square-init : goal.loop-square-init
loop-square-init c = sym (key_below-none c.args.table.now (man_at c.args.placement.now))

pub loop-square-preserved : goal.loop-square-preserved
loop-square-preserved c =
    let man_on : Men = man_at c.args.placement.now in
    rw (c.word_on-number.ensures, c.from_index.ensures, c.loop-square.invariant) (key_below-more c.args.table.now man_on c.loop-square.square)

pub returns-clause-agrees : goal.returns-clause-agrees
returns-clause-agrees c =
    let man_on : Men = man_at c.args.placement.now in
    let all : key_below c.args.table.now man_on c.loop-square.square ≡ key_below c.args.table.now man_on 64 = ap (key_below c.args.table.now man_on) (omega arith) in
    c.loop-square.invariant ∙ all ∙ key_below-all c.args.table.now man_on

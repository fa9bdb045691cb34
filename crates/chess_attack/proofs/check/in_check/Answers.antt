use Rattle.std.proofs.Common.{◌≡◌, true, false, ap, sym, ◌∙◌, arith}
use Rattle.chess_types.specs.board.Board.{Men, man_at}
use Rattle.chess_types.specs.board.Attack.{is_attacked}
use Rattle.chess_types.specs.board.Men.{opponent}
use Rattle.chess_attack.proofs.Kings.{all_left, one_left, one_attacked, none_left}
use Rattle.chess_attack.proofs.MarkSets.{one_fewer}
use Rattle.chess_attack.proofs.check.in_check.Goals as goal

pub loop-king-init : goal.loop-king-init
loop-king-init c = all_left (man_at c.args.placement.now) c.args.colour c.king-kings.result c.king-kings.ensures

pub loop-king-smaller : goal.loop-king-smaller
loop-king-smaller c = rw c.remove.ensures (omega (arith, one_fewer c.loop-king.kings c.in-Some.king c.in-Some.ensures.found.held))

pub loop-king-preserved : goal.loop-king-preserved
loop-king-preserved c =
    let man_on : Men = man_at c.args.placement.now in
    let safe : is_attacked man_on (opponent c.args.colour) c.in-Some.king ≡ false =
    ap (λ colour. is_attacked man_on colour c.in-Some.king) (sym c.opponent.ensures) ∙ sym c.is_attacked.ensures ∙ c.if-is_attacked.false in
    rw c.remove.ensures (one_left man_on c.args.colour c.loop-king.kings c.in-Some.king c.loop-king.invariant safe)

pub returns-then-is_attacked : goal.returns-then-is_attacked
returns-then-is_attacked c =
    let man_on : Men = man_at c.args.placement.now in
    let attacked : is_attacked man_on (opponent c.args.colour) c.in-Some.king ≡ true =
    ap (λ colour. is_attacked man_on colour c.in-Some.king) (sym c.opponent.ensures) ∙ sym c.is_attacked.ensures ∙ c.if-is_attacked.true in
    sym (one_attacked man_on c.args.colour c.loop-king.kings c.in-Some.king c.loop-king.invariant c.in-Some.ensures.found.on_board
    c.in-Some.ensures.found.held attacked)

pub returns : goal.returns
returns c = sym (none_left (man_at c.args.placement.now) c.args.colour c.loop-king.kings c.loop-king.invariant c.in_default.ensures.none)

use Rattle.std.proofs.Common.{sym, ◌∙◌, arith}
use Rattle.chess_types.specs.board.Board.{man_at}
use Rattle.chess_attack.proofs.AttackSets.{attacked_is}
use Rattle.chess_attack.proofs.attacked.is_attacked.Goals as goal

pub returns-then-holds_any : goal.returns-then-holds_any
returns-then-holds_any c =
    let all = attacked_is (man_at c.args.placement.now) c.args.colour c.args.square c.leapers.result (omega arith) c.leapers.ensures in
    let some = sym c.holds_any.ensures ∙ c.if-holds_any.true in
    c.if-holds_any.true ∙ rw some at all

pub returns-else-holds_any : goal.returns-else-holds_any
returns-else-holds_any c =
    let all = attacked_is (man_at c.args.placement.now) c.args.colour c.args.square c.leapers.result (omega arith) c.leapers.ensures in
    let none = sym c.holds_any.ensures ∙ c.if-holds_any.false in
    c.is_seen_around.ensures ∙ rw none at all

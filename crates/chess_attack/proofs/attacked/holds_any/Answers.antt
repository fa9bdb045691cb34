use Rattle.std.proofs.Common.{sym, arith}
use Rattle.std.specs.FinSet.{contains}
use Rattle.chess_types.specs.board.Squares.{squares}
use Rattle.chess_types.proofs.Runs.{list_any_from}
use Rattle.chess_attack.proofs.AttackSets.{holds_none}
use Rattle.chess_attack.proofs.attacked.holds_any.Goals as goal

pub returns-in-Some : goal.returns-in-Some
unfolding squares
returns-in-Some c =
    let low = c.in-Some.ensures.found in
    sym (list_any_from (contains c.args.set) 0 64 c.in-Some.field-0 (omega arith) low.on_board low.held)

pub returns-in-None : goal.returns-in-None
returns-in-None c = sym (holds_none c.args.set c.in-None.ensures.none)

use Rattle.std.proofs.Common.{sym}
use Rattle.chess_types.specs.board.Board.{man_at}
use Rattle.chess_attack.proofs.Sighted.{clear_off}
use Rattle.chess_attack.proofs.sight.is_clear.Goals as goal

pub returns-in-None : goal.returns-in-None
returns-in-None c = sym (clear_off (man_at c.args.placement.now) c.args.a c.args.b c.in-None.ensures.none)

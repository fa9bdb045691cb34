use Rattle.std.proofs.Common.{sym}
use Rattle.chess_types.specs.board.Board.{man_at}
use Rattle.chess_attack.proofs.AttackSets.{seen_free}
use Rattle.chess_attack.proofs.attacked.is_seen.Goals as goal

pub returns-then-is_free : goal.returns-then-is_free
returns-then-is_free c = sym (seen_free (man_at c.args.placement.now) c.args.axis c.args.way c.args.at c.args.colour (c.is_free.ensures c.if-is_free.true))

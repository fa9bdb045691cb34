use Rattle.std.proofs.Common.{rules}
use Rattle.chess_bindings.proofs.NextLemmas.{is_next}
use Rattle.chess_bindings.proofs.next.next_game.Goals as goal

pub returns : goal.returns
returns g c = is_next _ _ _ _ _ c.read_next.result c.read_next.ensures.game c.read_next.ensures.none (search rules)

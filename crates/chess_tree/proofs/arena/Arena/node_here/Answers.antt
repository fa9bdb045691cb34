use Rattle.std.proofs.Common.{◌∙◌}
use Rattle.chess_tree.proofs.ViewLemmas.{here_seen, here_viewed}
use Rattle.chess_tree.proofs.arena.Arena.node_here.Goals as goal

pub new-requires : goal.new-requires
new-requires g c = here_viewed _ _ _ _ _ _ _ c.self.invariant c.self.view_is

pub returns : goal.returns
returns g c = c.new.ensures ∙ here_seen _ _ _ _ _ _ _ c.self.invariant c.self.view_is

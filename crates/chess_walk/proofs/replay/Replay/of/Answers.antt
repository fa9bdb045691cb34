use Rattle.std.proofs.Common.{[], refl, ◌∙◌}
use Rattle.chess_walk.proofs.ReplayLemmas.{whole_begun}
use Rattle.chess_walk.proofs.replay.Replay.of.Goals as goal

pub over-requires : goal.over-requires
over-requires g c = (whole_begun c.args.tree.now.tree c.args.tree.now (record { start = c.args.tree.now.tree.start; moves = [] }) c.in_ok-walk.walk refl c.position.ensures.game refl c.in_ok-walk.ensures).1

pub returns : goal.returns
returns g c = c.over.ensures ∙ (whole_begun c.args.tree.now.tree c.args.tree.now (record { start = c.args.tree.now.tree.start; moves = [] }) c.in_ok-walk.walk refl c.position.ensures.game refl c.in_ok-walk.ensures).0

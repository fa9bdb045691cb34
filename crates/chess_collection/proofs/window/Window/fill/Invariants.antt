use Rattle.std.proofs.Common.{◌⊎◌, ◌≤◌, ◌<◌, ◌+◌, length, if◌then◌else◌}
use Rattle.chess_collection.specs.Windows.{Comes, KnowsItsEnd}
use Rattle.chess_collection.proofs.window.Window.fill.Given as goal

-- the bytes that came are at hand, and are no more than a piece too many
abbrev pub invariant-loop-self : goal.invariant-loop-self
invariant-loop-self g l =
    Comes g.R.Source.gives g.R.Source.failed l.fn.self l.self × KnowsItsEnd g.R.Source.ended l.self × ((length l.self.bytes ≤ length l.fn.self.bytes) ⊎ (length l.self.bytes < l.most + 65536))

abbrev pub decreases-loop-self : goal.decreases-loop-self
decreases-loop-self g l = if l.self.has_ended then 0 else l.self.reads + 1

use Rattle.std.proofs.Common.{◌+◌, if◌then◌else◌}
use Rattle.chess_collection.specs.Windows.{Comes, KnowsItsEnd, StayFew}
use Rattle.chess_collection.proofs.going.widen.Given as goal

-- more bytes came
abbrev pub invariant-loop-place : goal.invariant-loop-place
invariant-loop-place g l = record {
  comes : Comes g.R.Source.gives g.R.Source.failed l.fn.window l.window;
  knows : KnowsItsEnd g.R.Source.ended l.window;
  few : StayFew g.H.GameHandler.white l.fn.window.bytes l.window.bytes;
}

abbrev pub decreases-loop-place : goal.decreases-loop-place
decreases-loop-place g l = if l.window.has_ended then 0 else l.window.reads + 1

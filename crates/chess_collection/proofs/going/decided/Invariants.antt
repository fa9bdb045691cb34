use Rattle.std.proofs.Common.{◌+◌, if◌then◌else◌}
use Rattle.chess_collection.specs.Windows.{Comes, IsWide, KnowsItsEnd, StayFew}
use Rattle.chess_collection.proofs.going.decided.Given as goal

-- more bytes came
abbrev pub invariant-loop-handled : goal.invariant-loop-handled
invariant-loop-handled g l = record {
  comes : Comes g.R.Source.gives g.R.Source.failed l.fn.window l.window;
  knows : KnowsItsEnd g.R.Source.ended l.window;
  wide : IsWide l.window;
  few : StayFew g.H.GameHandler.white l.fn.window.bytes l.window.bytes;
}

abbrev pub decreases-loop-handled : goal.decreases-loop-handled
decreases-loop-handled g l = if l.window.has_ended then 0 else l.window.reads + 1

use Rattle.std.proofs.Common.{◌≡◌, None, length}
use Rattle.chess_salvage.specs.Salvaging.{CutsOff}
use Rattle.chess_salvage.proofs.salvaging.read_cutting.Given as goal

-- the text was written anew once for each cut so far, and none has a game
abbrev pub invariant-loop-before : goal.invariant-loop-before
invariant-loop-before g l = CutsOff l.fn.text.items l.cuts.items l.text.items × (length l.cuts.items ≡ l.before) × (l.game ≡ None)

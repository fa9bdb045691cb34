use Rattle.std.proofs.Common.{arith}
use Rattle.chess_search.proofs.RootLemmas.{root_legal}
use Rattle.chess_search.proofs.guess.guess.Goals as goal

pub promise-promised-requires-clause-legal : goal.promise-promised-requires-clause-legal
promise-promised-requires-clause-legal g c =
    root_legal c.args.line.now.line _ c.args.roots.now c.loop-place.place c.index-roots-place.result c.requires.legal (omega arith) c.index-roots-place.is c.loop-place.invariant.line.line

use Rattle.std.proofs.Common.{◌<◌, arith}
use Rattle.std.proofs.lemmas.Bool.Decides.{nat_tests}
use Rattle.chess_tree.proofs.ViewLemmas.{nags_seen}
use Rattle.chess_tree.proofs.node.NodeRef.notes.Goals as goal

pub returns-clause-nags : goal.returns-clause-nags
returns-clause-nags g c =
    let test = c.if-eq.ensures in
    let root = c.root.ensures in
    let some : 0 < c.self.inside.number = grind (arith, nat_tests) in
    nags_seen _ _ _ _ _ c.self.view_is some c.nags.ensures

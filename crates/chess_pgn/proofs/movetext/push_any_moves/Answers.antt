use Rattle.std.proofs.Common.{[], ◌∙◌, ap, sym}
use Rattle.chess_tree.specs.Forest.{NodeParts, count}
use Rattle.chess_pgn.proofs.AddLemmas.{adds_none, adds_same}
use Rattle.chess_pgn.proofs.UsualLemmas.{no_moves}
use Rattle.chess_pgn.proofs.movetext.push_any_moves.Goals as goal

pub returns-then-children-eq0 : goal.returns-then-children-eq0
returns-then-children-eq0 g c =
    let tree = c.args.tree.now.tree in
    adds_same c.args.lines c.args.lines [] _ (sym (no_moves tree.start tree.below (ap (λ (n : NodeParts). count n.below) (sym c.root.ensures) ∙ sym c.children.ensures ∙ c.if-children-eq0.true))) (adds_none c.args.lines)

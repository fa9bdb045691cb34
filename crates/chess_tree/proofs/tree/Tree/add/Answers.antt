use Rattle.std.proofs.Common.{ap, ◌∙◌}
use Rattle.chess_types.specs.board.Lines.{extended}
use Rattle.chess_tree.specs.GameTree.{TreeParts, line_to}
use Rattle.chess_tree.proofs.KeptLemmas.{kept_added, kept_line_added, not_full_less}
use Rattle.chess_tree.proofs.tree.Tree.add.Goals as goal

pub invariant_of-self-2 : goal.invariant_of-self-2
invariant_of-self-2 g c =
    kept_added _ _ c.self.invariant _ _ c.in_ok-add.ensures.ok (rw (← c.self.view_is) at c.requires.legal) (rw (← c.self.view_is) at c.requires.deep)
    (not_full_less _ c.is_full.result c.is_full.ensures.full c.if-is_full.false)

pub returns-clause-line : goal.returns-clause-line
returns-clause-line g c = kept_line_added _ _ c.self.invariant _ _ c.in_ok-add.ensures.ok ∙ ap (λ (t : TreeParts). extended (line_to t) c.args.played) c.self.view_is

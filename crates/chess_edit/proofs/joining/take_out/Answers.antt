use Rattle.std.proofs.Common.{ap, ◌∙◌, arith, length}
use Rattle.chess_tree.specs.GameTree.{TreeParts, deleted}
use Rattle.chess_edit.proofs.JoinLemmas.{gone}
use Rattle.chess_edit.proofs.joining.take_out.Goals as goal

pub returns-in-Ok-clause-taken : goal.returns-in-Ok-clause-taken
returns-in-Ok-clause-taken g c = λ there.
    let path = ap (λ (t : TreeParts). length t.path) c.in-Ok.ensures.ok in
    ap (λ (t : TreeParts). t.tree) (gone c.delete-gone.result c.goto.new.self c.delete-gone.new.self c.delete-gone.ensures.ok c.delete-gone.ensures.at_root (omega (arith, path, c.requires.below)) ∙ ap deleted c.in-Ok.ensures.ok)

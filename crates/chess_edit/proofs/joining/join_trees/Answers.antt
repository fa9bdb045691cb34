use Rattle.std.proofs.Common.{sym, ap, subst, ◌∙◌, arith, length}
use Rattle.chess_tree.specs.Forest.{Forest, NodeParts, height}
use Rattle.chess_tree.specs.GameTree.{TreeParts}
use Rattle.chess_tree.specs.WellFormed.{AreSound}
use Rattle.chess_edit.proofs.JoinLemmas.{all_back, joined_full, joined_trees, root_sound, still_there, unless}
use Rattle.chess_edit.proofs.joining.join_trees.Goals as goal

pub go_along-node-requires-clause-sound : goal.go_along-node-requires-clause-sound
go_along-node-requires-clause-sound g c =
    root_sound c.start.new.self c.args.other.now.tree.start c.root.result.below (ap (λ (t : TreeParts). t.path) c.start.ensures.path)
    (ap (λ (t : TreeParts). t.tree.start) c.start.ensures.path ∙ c.requires.start)
    (subst (λ (f : Forest). AreSound c.args.other.now.tree.start f) (sym (ap (λ (n : NodeParts). n.below) c.root.ensures)) c.position-start.ensures.game.moves)

pub go_along-node-requires-clause-deep : goal.go_along-node-requires-clause-deep
go_along-node-requires-clause-deep g c =
    let path = ap (λ (t : TreeParts). length t.path) c.start.ensures.path in
    let high = ap (λ (n : NodeParts). height n.below) c.root.ensures in
    omega (arith, path, high, c.position-start.ensures.game.deep)

pub step_back_to-requires : goal.step_back_to-requires
step_back_to-requires g c =
    record {
      there =
          still_there c.as_slice.result.now c.args.tree.now c.add_line.new.tree (c.as_slice.ensures.value ∙ c.in_ok-path.ensures.ok)
          (c.in-Err.ensures.err ∙ c.go_along-node.ensures.same ∙ ap (λ (t : TreeParts). t.tree) c.start.ensures.path) c.position-here.ensures.game.cursor;
    }

pub returns-in-Err-clause-err : goal.returns-in-Err-clause-err
returns-in-Err-clause-err g c =
    all_back c.as_slice.result.now c.args.tree.now c.add_line.new.tree c.step_back_to.new.tree (c.as_slice.ensures.value ∙ c.in_ok-path.ensures.ok)
    (c.in-Err.ensures.err ∙ c.go_along-node.ensures.same ∙ ap (λ (t : TreeParts). t.tree) c.start.ensures.path) c.step_back_to.ensures

pub returns-in-Err-clause-full : goal.returns-in-Err-clause-full
returns-in-Err-clause-full g c = λ e.
    joined_full c.args.tree.now c.start.new.self c.go_along-node.new.tree c.root.result c.args.other.now.tree c.go_along-node.result.below
    c.start.ensures.path c.root.ensures c.go_along-node.ensures.same c.go_along-node.ensures.goes c.go_along-node.ensures.ends (c.add_line.ensures.full (c.in-Err.is ∙ e))

pub returns-clause-ok : goal.returns-clause-ok
returns-clause-ok g c =
    joined_trees c.args.tree.now c.start.new.self c.go_along-node.new.tree c.add_line.new.tree c.start-2.new.self c.root.result c.args.other.now.tree c.go_along-node.result.below
    c.start.ensures.path c.root.ensures c.go_along-node.ensures.same c.go_along-node.ensures.goes c.go_along-node.ensures.ends
    (unless c.add_line.result c.in_default.not-Err c.add_line.ensures.ok) c.start-2.ensures.path

use Rattle.std.proofs.Common.{true, [], ◌≡◌, ◌∷◌, ◌∙◌, ap, refl, subst}
use Rattle.chess_tree.specs.Forest.{NodeParts}
use Rattle.chess_pgn.specs.steps.Adding.{Adds}
use Rattle.chess_pgn.specs.steps.Tasks as tasks
use Rattle.chess_pgn.specs.steps.Tasks.{tasks_text}
use Rattle.chess_pgn.specs.steps.TaskCode.{todos}
use Rattle.chess_pgn.proofs.AddLemmas.{adds_same}
use Rattle.chess_pgn.proofs.TaskLemmas.{todos_pushed, begins, begins_text}
use Rattle.chess_pgn.specs.declared.movetext.Task.TheVariants.{Moves}
use Rattle.chess_pgn.proofs.movetext.push_moves.Goals as goal

pub finish-requires : goal.finish-requires
finish-requires g c =
    let tree = c.args.tree.now.tree in
    let one : todos c.add.new.self.tasks.items ≡ tasks.Moves c.below.result true ∷ [] =
    todos_pushed c.new.result.items c.add.new.self.tasks.items (Moves c.below.result true) c.in_ok-add.ensures.tasks ∙ ap (λ x. tasks.Moves c.below.result true ∷ todos x) c.new.ensures.items in
    begins c.add.new.self.speller tree.start tree.start c.below.result tree.below (todos c.add.new.self.tasks.items) (c.add.ensures.line ∙ c.requires.start) refl (c.below.ensures ∙ ap (λ (n : NodeParts). n.below) c.root.ensures) one
    c.position-position.ensures.game.moves c.position-position.ensures.game.deep

pub returns : goal.returns
returns g c =
    let tree = c.args.tree.now.tree in
    let one : todos c.add.new.self.tasks.items ≡ tasks.Moves c.below.result true ∷ [] =
    todos_pushed c.new.result.items c.add.new.self.tasks.items (Moves c.below.result true) c.in_ok-add.ensures.tasks ∙ ap (λ x. tasks.Moves c.below.result true ∷ todos x) c.new.ensures.items in
    adds_same c.args.lines c.finish.new.self.lines _ _
    (begins_text c.add.new.self.speller tree.start tree.start c.below.result tree.below (todos c.add.new.self.tasks.items) (c.add.ensures.line ∙ c.requires.start) refl (c.below.ensures ∙ ap (λ (n : NodeParts). n.below) c.root.ensures) one)
    (subst (λ x. Adds x c.finish.new.self.lines (tasks_text c.add.new.self.speller (todos c.add.new.self.tasks.items))) c.add.ensures.lines c.in_ok-finish.ensures)

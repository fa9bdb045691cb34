use Rattle.std.proofs.Common.{◌≤◌, ◌+◌, ◌∷◌, ◌++◌, ◌∙◌, sym, ap, subst, arith}
use Rattle.chess_tree.specs.Forest.{height}
use Rattle.chess_walk.specs.declared.walk.Kind.{Kind}
use Rattle.chess_walk.specs.steps.Todos.{all_left, least_apart, left_as, left_of}
use Rattle.chess_walk.proofs.TodoLemmas.{first_heights, kept_one, kept_two, line_first, main_first, variation_first}
use Rattle.chess_walk.proofs.walk.Todo.visit.Goals.{in-Main, in-Line, in-Variations}
use Rattle.chess_walk.proofs.walk.Todo.visit.Goals as goal

pub keep-requires-in-Line-2-clause-fits : goal.keep-requires-in-Line-2-clause-fits
keep-requires-in-Line-2-clause-fits g c = λ some.
    let s = c.args.self in
    let heights = first_heights s.nodes c.next.new.self c.in-Some.node (sym c.in-Some.is ∙ c.next.ensures.first) c.next.ensures.rest in
    let apart : s.level + 1 ≤ s.depth = subst (λ (k : Kind). s.level + least_apart k ≤ s.depth) c.in-Line.is c.requires.fits.level in
    record {
      some = some;
      level = omega (arith, apart, ap (λ t. t.level + least_apart t.kind) c.of-in-Line-2.ensures, ap (λ t. t.depth) c.of-in-Line-2.ensures);
      depth = omega (arith, heights, c.requires.fits.depth, ap (λ t. t.depth + height t.nodes) c.of-in-Line-2.ensures);
    }

pub returns-clause-left : goal.returns-clause-left
returns-clause-left g c =
    let s = c.args.self in
    let n = c.in-Some.node in
    let old = all_left c.args.todo.now.items in
    let first = sym c.in-Some.is ∙ c.next.ensures.first in
    elim c.match-kind.branch [
      | in-Main w ↦
          kept_one _ _ old _ (left_of s)
          (ap (λ k. left_as k s.depth s.level s.again s.nodes) w.in-Main.is ∙ main_first s.depth s.level s.again s.nodes w.below.result n first w.below.ensures)
          (w.keep.ensures.left ∙ ap (λ t. left_of t ++ old) w.of.ensures)
          ∙ (λ j. record { depth = s.depth; level = (sym w.level-is j).0; begins = (sym w.level-is j).1; again = (sym w.level-is j).2; node = n } ∷ all_left (sym w.todo-is j).items)
      | in-Line w ↦
          kept_two _ _ _ old (all_left w.keep-in-Line.new.todo.items) _ (left_of s)
          (ap (λ k. left_as k s.depth s.level s.again s.nodes) w.in-Line.is
          ∙ line_first s.depth s.level s.again w.resumed-goes_on.result s.nodes c.next.new.self w.below-in-Line.result n first c.next.ensures.rest w.below-in-Line.ensures w.resumed-goes_on.ensures)
          (w.keep-in-Line.ensures.left ∙ ap (λ t. left_of t ++ old) w.of-in-Line.ensures)
          (w.keep-in-Line-2.ensures.left ∙ ap (λ t. left_of t ++ all_left w.keep-in-Line.new.todo.items) w.of-in-Line-2.ensures)
          ∙ (λ j. record { depth = s.depth; level = (sym w.level-is j).0; begins = (sym w.level-is j).1; again = (sym w.level-is j).2; node = n } ∷ all_left (sym w.todo-is j).items)
      | in-Variations w ↦
          kept_two _ _ _ old (all_left w.keep-in-Variations.new.todo.items) _ (left_of s)
          (ap (λ k. left_as k s.depth s.level s.again s.nodes) w.in-Variations.is
          ∙ variation_first s.depth s.level s.again s.nodes c.next.new.self w.below-in-Variations.result n first c.next.ensures.rest w.below-in-Variations.ensures)
          (w.keep-in-Variations.ensures.left ∙ ap (λ t. left_of t ++ old) w.of-in-Variations.ensures)
          (w.keep-in-Variations-2.ensures.left ∙ ap (λ t. left_of t ++ all_left w.keep-in-Variations.new.todo.items) w.of-in-Variations-2.ensures)
          ∙ (λ j. record { depth = s.depth; level = (sym w.level-is j).0; begins = (sym w.level-is j).1; again = (sym w.level-is j).2; node = n } ∷ all_left (sym w.todo-is j).items)
    ]

use Rattle.std.proofs.Common.{List, ◌≡◌, ◌∷◌, ◌∙◌, ap, sym}
use Rattle.chess_pgn.specs.steps.Tasks as tasks
use Rattle.chess_pgn.specs.steps.TaskCode.{returning, todos}
use Rattle.chess_pgn.proofs.AddLemmas.{adds_none}
use Rattle.chess_pgn.proofs.TaskLemmas.{first_node, lines_as, step_variation, no_variations, steps_as, returning_pushed, todos_pushed}
use Rattle.chess_pgn.specs.declared.movetext.Task.TheVariants.{Variations, Close}
use Rattle.chess_pgn.proofs.movetext.Writer.variations.Goals as goal

pub returns-in_default : goal.returns-in_default
returns-in_default g c =
    no_variations c.args.self.now.lines c.args.self.now.speller (todos c.args.self.now.tasks.items) c.args.nodes (sym c.in_default.is ∙ c.next.ensures.first) c.requires (adds_none c.args.self.now.lines)

pub returns : goal.returns
returns g c =
    let items = c.args.self.now.tasks.items in
    let ts = todos items in
    let rest = c.next.new.self in
    let first = first_node c.in-Some.is c.next.ensures.first c.next.ensures.rest c.in-Some-move_at.is c.move_at.ensures c.notes-notes.ensures.nags c.notes-notes.ensures.comment c.below.ensures in
    let items1 = c.add.new.self.tasks.items in
    let items2 = c.add-2.new.self.tasks.items in
    let one = todos_pushed items items1 (Variations rest) c.in_ok-add.ensures.tasks in
    let two = todos_pushed items1 items2 Close c.in_ok-add-2.ensures.tasks in
    let pushed : todos items2 ≡ tasks.Close ∷ tasks.Variations rest ∷ ts = two ∙ ap (λ (x : List tasks.Todo). tasks.Close ∷ x) one in
    let behind : returning items2 ≡ tasks.Back ∷ tasks.Close ∷ tasks.Variations rest ∷ ts =
    ap returning c.in_ok-add-2.ensures.tasks ∙ returning_pushed items1 Close ∙ ap (λ (x : List tasks.Todo). tasks.Back ∷ x) (sym (ap todos c.in_ok-add-2.ensures.tasks) ∙ pushed) in
    let made = c.in_ok-push_move.ensures in
    lines_as (c.go_on.ensures.lines ∙ c.add-2.ensures.lines ∙ c.add.ensures.lines)
    (steps_as (c.go_on.ensures.line ∙ c.add-2.ensures.line ∙ c.add.ensures.line ∙ made.line)
    (c.in_ok-go_on.ensures.tasks ∙ ap (λ (x : List tasks.Todo). tasks.Moves c.below.result c.is_noted-due_below.result ∷ x) behind)
    (step_variation first c.is_noted-due_below.ensures c.requires made.adds))

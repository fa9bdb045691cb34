use Rattle.std.proofs.Common.{List, ◌≡◌, ◌∷◌, subst}
use Rattle.chess_pgn.specs.steps.Tasks.{Todo}
use Rattle.chess_pgn.specs.steps.TaskCode.{Done, todo, todos}
use Rattle.chess_pgn.proofs.AddLemmas.{adds_none}
use Rattle.chess_pgn.proofs.TaskLemmas.{done_none, done_on, todos_pushed}
use Rattle.chess_pgn.proofs.movetext.Writer.finish.Goals as goal

pub loop-task-init : goal.loop-task-init
loop-task-init g c = done_none c.args.self.now.lines c.args.self.now.speller (todos c.args.self.now.tasks.items) c.requires (adds_none c.args.self.now.lines)

pub loop-task-preserved : goal.loop-task-preserved
loop-task-preserved g c =
    let first = c.args.self.now in
    let old = c.loop-task.self in
    let new = c.step.new.self in
    let prefix = c.pop.new.self.items in
    let t = c.in-Some.task in
    let parted : todos old.tasks.items ≡ todo t ∷ todos prefix = todos_pushed prefix old.tasks.items t c.in-Some.ensures.items in
    done_on first.lines old.lines new.lines first.speller old.speller new.speller (todos first.tasks.items) (todo t ∷ todos prefix) (todos new.tasks.items)
    (subst (λ (x : List Todo). Done first.lines old.lines first.speller old.speller (todos first.tasks.items) x) parted c.loop-task.invariant) c.in_ok-step.ensures

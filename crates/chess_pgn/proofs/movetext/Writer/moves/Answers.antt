use Rattle.std.proofs.Common.{List, refl, ◌∷◌, ◌∙◌, ap, arith, sym}
use Rattle.chess_types.specs.board.Lines.{last}
use Rattle.chess_tree.specs.Forest.{child}
use Rattle.chess_pgn.specs.steps.Tasks as tasks
use Rattle.chess_pgn.specs.steps.Tasks.{work}
use Rattle.chess_pgn.specs.steps.TaskCode.{todos}
use Rattle.chess_pgn.proofs.AddLemmas.{adds_none}
use Rattle.chess_pgn.proofs.TaskLemmas.{done_last, done_none, done_on, first_few, first_legal, first_node, has_move, lines_as, none_is, step_moves, step_none, step_only, steps_as, taken_back, todos_pushed}
use Rattle.chess_pgn.specs.declared.movetext.Task.TheVariants.{Variations, Below}
use Rattle.chess_pgn.proofs.movetext.Writer.moves.Goals as goal

pub loop-node-init : goal.loop-node-init
loop-node-init g c = done_none c.args.self.now.lines c.args.self.now.speller (tasks.Moves c.args.nodes c.args.due ∷ todos c.args.self.now.tasks.items) c.requires (adds_none c.args.self.now.lines)

pub unreachable-requires : goal.unreachable-requires
unreachable-requires g c = has_move c.loop-node.others c.in-Some.is c.next.ensures.first c.in_default-move_at.is c.move_at.ensures

pub push_move-requires-clause-legal : goal.push_move-requires-clause-legal
push_move-requires-clause-legal g c =
    let n = c.in-Some.node in
    let first = first_node {below = n.below} {nags = n.nags} {comment = n.comment} c.in-Some.is c.next.ensures.first c.next.ensures.rest c.in-Some-move_at.is c.move_at.ensures refl refl refl in
    first_legal (last c.loop-node.self.speller) c.loop-node.others c.in-Some-move_at.played _ _ _ _ first c.loop-node.invariant.tasks.0

pub push_move-requires-clause-few : goal.push_move-requires-clause-few
push_move-requires-clause-few g c =
    let n = c.in-Some.node in
    let first = first_node {below = n.below} {nags = n.nags} {comment = n.comment} c.in-Some.is c.next.ensures.first c.next.ensures.rest c.in-Some-move_at.is c.move_at.ensures refl refl refl in
    first_few (last c.loop-node.self.speller) c.loop-node.others c.in-Some-move_at.played _ _ _ _ _ first c.loop-node.invariant.tasks.1

pub returns-then-not-is_empty : goal.returns-then-not-is_empty
returns-then-not-is_empty g c =
    let line = c.loop-node.self.speller in
    let items = c.loop-node.self.tasks.items in
    let rest = c.next.new.self in
    let m = c.in-Some-move_at.played in
    let first = first_node c.in-Some.is c.next.ensures.first c.next.ensures.rest c.in-Some-move_at.is c.move_at.ensures c.notes-notes.ensures.nags c.notes-notes.ensures.comment c.below.ensures in
    let one = todos_pushed items c.add.new.self.tasks.items (Below m c.number-number.result c.below.result c.is_separated-due.result) c.in_ok-add.ensures.tasks in
    let two = todos_pushed c.add.new.self.tasks.items c.add-then-not-is_empty.new.self.tasks.items (Variations rest) c.in_ok-add-2.ensures.tasks in
    let made = c.in_ok-push_move.ensures in
    done_last c.loop-node.invariant
    (lines_as (c.add-then-not-is_empty.ensures.lines ∙ c.add.ensures.lines)
    (steps_as (c.add-then-not-is_empty.ensures.line ∙ c.add.ensures.line ∙ taken_back line c.push_move.new.speller c.back.new.self m made.line c.back.ensures) (two ∙ ap (λ (x : List tasks.Todo). tasks.Variations rest ∷ x) one)
    (step_moves first c.is_separated-due.ensures c.loop-node.invariant.tasks made.adds)))

pub returns : goal.returns
returns g c =
    done_last c.loop-node.invariant
    (step_none c.loop-node.self.lines c.loop-node.self.speller (todos c.loop-node.self.tasks.items) c.loop-node.others c.loop-node.due (sym c.in_default.is ∙ c.next.ensures.first) c.loop-node.invariant.tasks (adds_none c.loop-node.self.lines))

pub loop-node-smaller : goal.loop-node-smaller
loop-node-smaller g c =
    let first = first_node c.in-Some.is c.next.ensures.first c.next.ensures.rest c.in-Some-move_at.is c.move_at.ensures c.notes-notes.ensures.nags c.notes-notes.ensures.comment c.below-others.ensures in
    let none = none_is (child 0 c.next.new.self) c.is_empty.result c.is_empty.ensures c.if-not-is_empty.false in
    let made = c.in_ok-push_move.ensures in
    let one = step_only {old = c.loop-node.self.lines} {new = c.push_move.new.lines} first c.loop-node.self.tasks.items none c.is_separated-due.ensures c.loop-node.invariant.tasks made.adds in
    let same = ap (λ (x : List tasks.Todo). work (tasks.Moves c.below-others.result c.is_separated-due.result ∷ x)) c.in_ok-leave_back.ensures.tasks in
    omega (arith, one.smaller, same)

pub loop-node-preserved : goal.loop-node-preserved
loop-node-preserved g c =
    let first = first_node c.in-Some.is c.next.ensures.first c.next.ensures.rest c.in-Some-move_at.is c.move_at.ensures c.notes-notes.ensures.nags c.notes-notes.ensures.comment c.below-others.ensures in
    let none = none_is (child 0 c.next.new.self) c.is_empty.result c.is_empty.ensures c.if-not-is_empty.false in
    let made = c.in_ok-push_move.ensures in
    done_on _ _ _ _ _ _ _ _ _ c.loop-node.invariant
    (lines_as c.leave_back.ensures.lines
    (steps_as (c.leave_back.ensures.line ∙ made.line) (ap (λ (x : List tasks.Todo). tasks.Moves c.below-others.result c.is_separated-due.result ∷ x) c.in_ok-leave_back.ensures.tasks)
    (step_only first c.loop-node.self.tasks.items none c.is_separated-due.ensures c.loop-node.invariant.tasks made.adds)))

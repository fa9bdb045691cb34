use Rattle.std.proofs.Common.{◌∙◌, sym, ap, subst}
use Rattle.chess_walk.specs.steps.Todos.{AreFit, all_left}
use Rattle.chess_walk.proofs.TodoLemmas.{all_left-push, fit-push, some_is}
use Rattle.chess_walk.proofs.walk.Todo.keep.Goals as goal

pub returns-clause-left : goal.returns-clause-left
returns-clause-left g c = ap all_left c.push_reserved.ensures.items ∙ all_left-push c.args.todo.now.items c.args.self

pub returns-clause-fit : goal.returns-clause-fit
returns-clause-fit g c =
    subst AreFit (sym c.push_reserved.ensures.items)
    (fit-push c.args.todo.now.items c.args.self c.requires.fit (c.requires.fits (some_is c.args.self.nodes (sym c.is_empty.ensures ∙ c.if-is_empty.false))))

use Rattle.std.proofs.Common.{◌≡◌, ◌<◌, ◌∷◌, sym, ap, subst, ◌∙◌, length, arith}
use Rattle.std.proofs.lemmas.Bool.Decides.{nat_tests}
use Rattle.std.proofs.lemmas.Grind.{common_steps}
use Rattle.chess_walk.specs.steps.Todos.{AreFit, all_left, seen}
use Rattle.chess_walk.proofs.TodoLemmas.{all_left-push, fit-pop, one_fewer, some_to_come}
use Rattle.chess_walk.proofs.walk.WalkIterator.next.Goals as goal

pub returns-then-is_err-clause-goes : goal.returns-then-is_err-clause-goes
returns-then-is_err-clause-goes g c =
    let held : 0 < length c.self.inside.todo.items = grind (arith, nat_tests, common_steps, c.is_empty.ensures, c.if-is_empty.false) in
    let some : 0 < length (all_left c.self.inside.todo.items) = some_to_come c.self.inside.todo.items c.self.invariant held in
    let was : length (all_left c.self.inside.todo.items) ≡ length c.args.self.now = ap length c.self.view_is in
    let gone : length (all_left c.clear.new.self.items) ≡ 0 = ap (λ ts. length (all_left ts)) c.clear.ensures.items in
    record { on = λ _. (tt, tt, omega arith); keeps = tt; rests = λ _. tt }

pub visit-requires-clause-fits : goal.visit-requires-clause-fits
visit-requires-clause-fits g c =
    (fit-pop c.pop.new.self.items c.in_ok-todo.todo (subst AreFit (sym c.reserve.ensures.items ∙ c.in_ok-todo.ensures.items) c.self.invariant)).1

pub visit-requires-clause-fit : goal.visit-requires-clause-fit
visit-requires-clause-fit g c =
    (fit-pop c.pop.new.self.items c.in_ok-todo.todo (subst AreFit (sym c.reserve.ensures.items ∙ c.in_ok-todo.ensures.items) c.self.invariant)).0

pub returns-clause-steps : goal.returns-clause-steps
returns-clause-steps g c =
    sym c.self.view_is ∙ ap all_left (sym c.reserve.ensures.items ∙ c.in_ok-todo.ensures.items) ∙ all_left-push c.pop.new.self.items c.in_ok-todo.todo
    ∙ c.visit.ensures.left

pub returns-clause-goes : goal.returns-clause-goes
returns-clause-goes g c =
    let steps : c.args.self.now ≡ seen c.visit.result ∷ all_left c.visit.new.todo.items =
    sym c.self.view_is ∙ ap all_left (sym c.reserve.ensures.items ∙ c.in_ok-todo.ensures.items) ∙ all_left-push c.pop.new.self.items c.in_ok-todo.todo
    ∙ c.visit.ensures.left in
    let fewer : length (all_left c.visit.new.todo.items) < length c.args.self.now = one_fewer (seen c.visit.result) c.args.self.now (all_left c.visit.new.todo.items) steps in
    record { on = λ _. (tt, tt, fewer); keeps = tt; rests = λ _. tt }

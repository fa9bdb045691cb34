use Rattle.chess_collection.specs.Windows.{Comes, StayFew}
use Rattle.chess_collection.specs.steps.Going.{BreaksOff}
use Rattle.chess_collection.proofs.GoingLemmas.{both_few, both_off, on_both, on_err}
use Rattle.chess_collection.proofs.WindowLemmas.{comes_none, comes_on}
use Rattle.chess_collection.proofs.going.next_handled.Goals as goal

-- it was found early
pub returns-in-Some-clause-came : goal.returns-in-Some-clause-came
returns-in-Some-clause-came g c = comes_none g.R.Source.gives g.R.Source.failed c.args.window.now

-- more was read for it
pub returns-clause-came : goal.returns-clause-came
returns-clause-came g c =
    on_both c.decided.result
    (λ (x : Comes g.R.Source.gives g.R.Source.failed c.widen.new.window c.decided.new.window) _. comes_on g.R.Source.gives g.R.Source.failed c.args.window.now c.widen.new.window c.decided.new.window c.in_ok-handled.ensures.came x) c.decided.ensures.came c.decided.ensures.came

pub returns-clause-few : goal.returns-clause-few
returns-clause-few g c =
    on_both c.decided.result
    (λ (x : Comes g.R.Source.gives g.R.Source.failed c.widen.new.window c.decided.new.window) (few : StayFew g.H.GameHandler.white c.widen.new.window.bytes c.decided.new.window.bytes).
    both_few g.H.GameHandler.white c.args.window.now.bytes c.widen.new.window.bytes c.decided.new.window.bytes c.in_ok-handled.ensures.few x.bytes x.whole few)
    c.decided.ensures.came c.decided.ensures.few

pub returns-clause-broken : goal.returns-clause-broken
returns-clause-broken g c =
    on_err c.decided.result
    (λ failure (breaks : BreaksOff g.R.Source.gives g.R.Source.failed g.R.Source.ended g.H.GameHandler.white c.widen.new.window c.decided.new.window failure).
    both_off g.R.Source.gives g.R.Source.failed g.R.Source.ended g.H.GameHandler.white c.args.window.now c.widen.new.window c.decided.new.window failure c.in_ok-handled.ensures.came c.in_ok-handled.ensures.few breaks)
    c.decided.ensures.broken

use Rattle.std.proofs.Common.{◌≡◌, true, ap, sym, ◌∙◌}
use Rattle.std.specs.FinSet.{FinSet, contains, insert, remove}
use Rattle.std.specs.Ordering.{nat_cmp}
use Rattle.chess_types.specs.board.MoveParts.{MoveParts}
use Rattle.chess_draws.proofs.BackLemmas.{moved_one, with_mover}
use Rattle.chess_draws.proofs.men.set_before.Goals as goal

pub returns-then-contains : goal.returns-then-contains
returns-then-contains c = λ before after test step none gathers s.
    let moved : c.insert.new.self ≡ insert (remove c.args.set c.args.m.to) c.args.m.from =
    c.insert.ensures ∙ ap (λ (set : FinSet nat_cmp). insert set c.m.inside.from) c.remove.ensures
    ∙ ap (λ (m : MoveParts). insert (remove c.args.set m.to) m.from) c.m.view_is in
    let holds : contains c.args.set c.args.m.to ≡ true =
    ap (λ (m : MoveParts). contains c.args.set m.to) (sym c.m.view_is) ∙ sym c.contains.ensures ∙ c.if-contains.true in
    ap (λ (set : FinSet nat_cmp). contains set s) moved
    ∙ with_mover c.args.set c.args.m before after test step none gathers (moved_one c.args.set c.args.m before after test step gathers ∙ holds) s

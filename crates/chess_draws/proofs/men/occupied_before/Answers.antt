use Rattle.std.proofs.Common.{◌≡◌, is_some, refl, ap, ◌∙◌}
use Rattle.std.specs.FinSet.{FinSet, contains, insert, remove}
use Rattle.std.specs.Ordering.{nat_cmp}
use Rattle.chess_types.specs.board.MoveParts.{MoveParts}
use Rattle.chess_draws.proofs.BackLemmas.{with_mover}
use Rattle.chess_draws.proofs.men.occupied_before.Goals as goal

pub returns : goal.returns
returns c = λ before after step gathers s.
    let moved : c.insert.new.self ≡ insert (remove c.args.occupied c.args.m.to) c.args.m.from =
    c.insert.ensures ∙ ap (λ (set : FinSet nat_cmp). insert set c.m.inside.from) c.remove.ensures
    ∙ ap (λ (m : MoveParts). insert (remove c.args.occupied m.to) m.from) c.m.view_is in
    ap (λ (set : FinSet nat_cmp). contains set s) moved ∙ with_mover c.args.occupied c.args.m before after is_some step refl gathers step.some s

use Rattle.std.proofs.Common.{◌≡◌, false, sym, ◌∙◌}
use Rattle.std.proofs.lemmas.Bool.{or_parts}
use Rattle.chess_play.specs.steps.Homes.{is_home}
use Rattle.chess_play.proofs.HomeLemmas.{rights_stay}
use Rattle.chess_play.proofs.after.rights_after.Goals as goal

pub returns-else-touches_a_home : goal.returns-else-touches_a_home
returns-else-touches_a_home c =
    let none : (is_home c.args.m.from ≡ false) × (is_home c.args.m.to ≡ false) = or_parts _ _ (sym c.touches_a_home.ensures ∙ c.if-touches_a_home.false) in
    sym (rights_stay c.args.rights c.args.m none.0 none.1)

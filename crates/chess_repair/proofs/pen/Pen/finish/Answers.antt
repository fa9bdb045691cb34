use Rattle.std.proofs.Common.{◌≡◌, ◌+◌, ◌-◌, ℕ, List, length, subst}
use Rattle.std.proofs.Math.Nat.{sub-add_cancel}
use Rattle.chess_repair.specs.Repairs.{Rewrites}
use Rattle.chess_repair.proofs.RewriteLemmas.{fits}
use Rattle.chess_repair.proofs.pen.Pen.finish.Goals as goal

pub overflow_sub-used : goal.overflow_sub-used
overflow_sub-used g c = fits (length c.self.inside.text.now) c.self.inside.text.now c.self.inside.repairs.items c.self.inside.out.items c.self.inside.rest.now c.self.invariant

pub returns : goal.returns
returns g c =
    let within = fits (length c.self.inside.text.now) c.self.inside.text.now c.self.inside.repairs.items c.self.inside.out.items c.self.inside.rest.now c.self.invariant in
    subst (λ (t : List ℕ). (rest : List ℕ) × Rewrites (length t) t c.self.inside.repairs.items c.self.inside.out.items rest × (length c.self.inside.text.now - length c.self.inside.rest.now + length rest ≡ length t)) c.self.view_is
    (c.self.inside.rest.now, c.self.invariant, sub-add_cancel within)

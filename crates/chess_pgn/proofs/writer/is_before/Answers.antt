use Rattle.std.proofs.Common.{Some, ap, refl, ◌∙◌}
use Rattle.std.specs.Ordering.{is_lt, is_some_and, nat_cmp}
use Rattle.std.specs.Cmp.Lexicographic.{lists_agrees}
use Rattle.chess_pgn.proofs.writer.is_before.Goals as goal

pub returns : goal.returns
returns c = c.lt.ensures ∙ ap (is_some_and is_lt) (lists_agrees {R = nat_cmp} {C = λ x y. Some (nat_cmp x y)} (λ x y. refl) c.args.name.now c.args.next.now)

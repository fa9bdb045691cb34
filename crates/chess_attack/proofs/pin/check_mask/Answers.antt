use Rattle.std.proofs.Common.{◌||◌, ◌==◌, ap, ◌∙◌, arith}
use Rattle.std.specs.FinSet.{contains, empty, contains-empty}
use Rattle.std.specs.Ordering.{nat_cmp}
use Rattle.chess_attack.proofs.Reached.{inserted}
use Rattle.chess_attack.proofs.StopSets.{stop_set, stop_alone}
use Rattle.chess_attack.proofs.pin.check_mask.Goals as goal

pub returns-in-Some : goal.returns-in-Some
returns-in-Some c = λ to ht.
    ap (λ s. contains s to) c.difference.ensures
    ∙ stop_set c.in-Some.axis c.in-Some.way c.args.king c.args.from to c.half.result c.half-in-Some.result (omega arith) (omega arith) c.in-Some.ensures.found
    c.half.ensures c.half-in-Some.ensures ht

pub returns-in-None : goal.returns-in-None
returns-in-None c = λ to ht.
    ap (λ s. contains s to) c.single.ensures
    ∙ inserted empty c.args.from to
    ∙ ap (λ b. b || (c.args.from == to)) (contains-empty nat_cmp to)
    ∙ stop_alone c.args.king c.args.from to c.in-None.ensures.none

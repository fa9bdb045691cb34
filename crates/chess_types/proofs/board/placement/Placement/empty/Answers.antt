use Rattle.std.proofs.Common.{arith, refl}
use Rattle.std.specs.Ordering.{nat_cmp}
use Rattle.std.specs.FinMap as map
use Rattle.chess_types.specs.declared.board.man.Man.{Man}
use Rattle.chess_types.specs.board.Board.{man_at}
use Rattle.chess_types.proofs.board.placement.Placement.empty.Goals as goal

pub invariant_of-result : goal.invariant_of-result
invariant_of-result c = rw c.empty_contents.ensures (λ colour. omega arith, c.empty.ensures (man_at (map.empty {K = _} {X = Man} {R = nat_cmp})) (map.get-empty nat_cmp), refl)

pub returns : goal.returns
returns c = rw c.empty_contents.ensures refl

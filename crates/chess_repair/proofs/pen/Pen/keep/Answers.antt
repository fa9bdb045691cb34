use Rattle.std.proofs.Common.{length}
use Rattle.chess_repair.proofs.RewriteLemmas.{kept_so}
use Rattle.chess_repair.proofs.pen.Pen.keep.Goals as goal

pub invariant_of-self-2 : goal.invariant_of-self-2
invariant_of-self-2 g c =
    kept_so (length c.self.inside.text.now) c.min.result c.self.inside.text.now c.self.inside.repairs.items c.self.inside.out.items c.self.inside.rest.now c.split_at.result.0.now c.split_at.result.1.now c.extend_from_slice.new.self.items
    c.self.invariant c.split_at.ensures.front c.split_at.ensures.back c.in_ok-extend_from_slice.ensures.items

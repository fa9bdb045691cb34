use Rattle.std.proofs.Common.{◌≤◌, ℕ, subst, sym}
use Rattle.chess_tree.specs.Forest.{height}
use Rattle.chess_tree.proofs.ArenaCalls.{room_seen}
use Rattle.chess_tree.proofs.arena.Arena.room.Goals as goal

pub returns : goal.returns
returns g c =
    subst (λ (n : ℕ). height c.args.self.now.root.below ≤ n) (sym c.capacity.ensures) (room_seen _ _ _ _ _ _ _ c.self.invariant c.self.view_is)

use Rattle.std.proofs.Common.{ℕ, ◌≡◌, get_or, ap, ◌∙◌, arith}
use Rattle.std.proofs.lemmas.List.{get_or_read_under}
use Rattle.chess_tree.specs.steps.Entries.{entry_at}
use Rattle.chess_tree.proofs.ArenaCalls.{depth_is, place_at_depth}
use Rattle.chess_tree.proofs.arena.Arena.place.Goals as goal

pub index-requires : goal.index-requires
index-requires g c = omega (arith, depth_is _ _ _ _ _ _ _ c.self.invariant c.self.view_is, c.requires, c.self.inside.trail.ok.0)

pub place-requires : goal.place-requires
place-requires g c =
    let read : c.index.result.now ≡ get_or c.self.inside.trail.items c.args.depth 0 =
    get_or_read_under _ _ _ _ 0 c.index.ensures (omega (arith, depth_is _ _ _ _ _ _ _ c.self.invariant c.self.view_is, c.requires, c.self.inside.trail.ok.0)) c.self.inside.trail.ok.0 in
    omega (arith, read, (place_at_depth _ _ _ _ _ _ _ c.self.invariant c.self.view_is c.args.depth c.requires).0)

pub returns : goal.returns
returns g c =
    let read : c.index.result.now ≡ get_or c.self.inside.trail.items c.args.depth 0 =
    get_or_read_under _ _ _ _ 0 c.index.ensures (omega (arith, depth_is _ _ _ _ _ _ _ c.self.invariant c.self.view_is, c.requires, c.self.inside.trail.ok.0)) c.self.inside.trail.ok.0 in
    c.place.ensures ∙ ap (λ (x : ℕ). (entry_at c.self.inside.nodes x).place) read ∙ (place_at_depth _ _ _ _ _ _ _ c.self.invariant c.self.view_is c.args.depth c.requires).1

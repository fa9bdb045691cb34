use Rattle.std.proofs.Common.{[], ◌∷◌, ◌++◌, sym, ◌∙◌, arith}
use Rattle.std.proofs.lemmas.List.{take_all, take_more}
use Rattle.chess_tree.proofs.ArenaCalls.{depth_is}
use Rattle.chess_tree.proofs.arena.Arena.places.Goals as goal

pub place-requires : goal.place-requires
place-requires g c = omega (arith, depth_is _ _ _ _ _ _ _ c.self.invariant c.self.view_is, c.loop-depth-test.true, c.len-depth-end.ensures, c.self.inside.trail.ok.0)

pub loop-depth-preserved : goal.loop-depth-preserved
loop-depth-preserved g c =
    c.in_ok-push.ensures.items
    ∙ (λ j. c.loop-depth.invariant j ++ c.place.ensures j ∷ [])
    ∙ sym (take_more c.args.self.now.path c.loop-depth.depth 0 (omega (arith, depth_is _ _ _ _ _ _ _ c.self.invariant c.self.view_is, c.loop-depth-test.true, c.len-depth-end.ensures, c.self.inside.trail.ok.0)))

pub returns : goal.returns
returns g c =
    c.loop-depth.invariant
    ∙ take_all c.loop-depth.depth c.args.self.now.path (omega (arith, depth_is _ _ _ _ _ _ _ c.self.invariant c.self.view_is, c.loop-depth-test.false, c.len-depth-end.ensures, c.self.inside.trail.ok.0))

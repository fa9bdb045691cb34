use Rattle.std.proofs.Common.{sym}
use Rattle.std.proofs.Common.{slice_get, ℕ, List}
use Rattle.chess_tree.proofs.arena.nodes.Nodes.child.Goals as goal
use Rattle.std.proofs.Common.{ap, ◌∙◌, arith}
use Rattle.chess_tree.proofs.SlotLemmas.{list_there, list_read}

pub index-requires-in-Listed : goal.index-requires-in-Listed
index-requires-in-Listed g c = omega (arith, list_there c.args.at c.self.invariant c.self.view_is c.requires c.index.result c.in-Listed.list c.index-2.result.now (c.index-2.ensures, c.index.ensures) (sym c.below.ensures ∙ c.in-Listed.is), c.self.inside.lists.ok.0)

pub returns-in-Listed : goal.returns-in-Listed
returns-in-Listed g c =
    c.at_place.ensures ∙ ap (λ (x : List ℕ). slice_get x c.args.place)
    (list_read c.args.at c.self.invariant c.self.view_is c.requires c.index.result c.in-Listed.list c.index-2.result.now c.index-in-Listed.result.now (c.index-2.ensures, c.index.ensures) (sym c.below.ensures ∙ c.in-Listed.is) c.index-in-Listed.ensures)

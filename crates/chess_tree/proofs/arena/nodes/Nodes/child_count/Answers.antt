use Rattle.std.proofs.Common.{sym}
use Rattle.std.proofs.Common.{◌≡◌, length, ℕ, List}
use Rattle.chess_tree.proofs.arena.nodes.Nodes.child_count.Goals as goal
use Rattle.std.proofs.Common.{ap, ◌∙◌, arith}
use Rattle.chess_tree.proofs.SlotLemmas.{list_there, list_read}

pub index-requires-in-Listed : goal.index-requires-in-Listed
index-requires-in-Listed g c = omega (arith, list_there c.args.at c.self.invariant c.self.view_is c.requires.there c.index.result c.in-Listed.list c.index-2.result.now (c.index-2.ensures, c.index.ensures) (sym c.below.ensures ∙ c.in-Listed.is), c.self.inside.lists.ok.0)

pub returns-in-Listed : goal.returns-in-Listed
returns-in-Listed g c =
    let got : c.len.result ≡ length c.index-in-Listed.result.now.items = c.len.ensures.value in
    got ∙ ap (λ (x : List ℕ). length x)
    (list_read c.args.at c.self.invariant c.self.view_is c.requires.there c.index.result c.in-Listed.list c.index-2.result.now c.index-in-Listed.result.now (c.index-2.ensures, c.index.ensures) (sym c.below.ensures ∙ c.in-Listed.is) c.index-in-Listed.ensures)

pub overflow_cast-result : goal.overflow_cast-result
overflow_cast-result g c =
    let children = list_read c.args.at c.self.invariant c.self.view_is c.requires.there c.index.result c.in-Listed.list c.index-2.result.now c.index-in-Listed.result.now (c.index-2.ensures, c.index.ensures) (sym c.below.ensures ∙ c.in-Listed.is) c.index-in-Listed.ensures in
    omega (arith, c.len.ensures.value, ap length children, c.requires.few)

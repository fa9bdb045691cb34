use Rattle.std.proofs.Common.{sym}
use Rattle.std.proofs.Common.{ℕ, List, ap, ◌∙◌}
use Rattle.chess_tree.specs.steps.Entries.{moved_first, with_children}
use Rattle.chess_tree.proofs.SlotLemmas.{list_now, list_read}
use Rattle.chess_tree.proofs.arena.nodes.Nodes.move_first.Goals as goal

pub returns-in-Listed : goal.returns-in-Listed
returns-in-Listed g c =
    let children = list_read c.args.at c.self.invariant c.self.view_is c.requires.there c.index.result c.in-Listed.list c.index-2.result.now c.index_mut.result.now (c.index-2.ensures, c.index.ensures) (sym c.below.ensures ∙ c.in-Listed.is) c.index_mut.ensures.value in
    list_now c.args.at c.self.invariant c.self.view_is c.requires.there c.index.result c.in-Listed.list c.index-2.result.now c.move_first.new.children (c.index-2.ensures, c.index.ensures) (sym c.below.ensures ∙ c.in-Listed.is)
    ∙ ap (λ (x : List ℕ). with_children c.args.at x c.args.self.now) (c.move_first.ensures ∙ ap (moved_first c.args.place) children)

use Rattle.std.proofs.Common.{ℕ, ap, sym, subst, ◌∙◌}
use Rattle.chess_tree.specs.steps.Notes.{noted_in}
use Rattle.chess_tree.specs.steps.Viewed.{IsViewed, node_seen}
use Rattle.chess_tree.proofs.ViewLemmas.{root_seen, root_viewed}
use Rattle.chess_tree.proofs.arena.Arena.root.Goals as goal

pub new-requires : goal.new-requires
new-requires g c = subst (λ (x : ℕ). IsViewed c.self.inside.nodes x) (sym c.root.ensures) (root_viewed _ _ _ _ _ _ _ c.self.invariant c.self.view_is)

pub returns : goal.returns
returns g c = c.new.ensures ∙ ap (λ (x : ℕ). node_seen c.self.inside.nodes (noted_in c.self.inside.notes.items) x) c.root.ensures ∙ root_seen _ _ _ _ _ _ _ c.self.invariant c.self.view_is

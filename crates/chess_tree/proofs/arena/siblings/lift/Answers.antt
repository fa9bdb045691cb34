use Rattle.std.proofs.Common.{ℕ, ap, take, ◌∙◌, arith}
use Rattle.chess_tree.specs.steps.Entries.{entry_at}
use Rattle.chess_tree.specs.steps.Writes.{placed}
use Rattle.chess_tree.proofs.PlacedLemmas.{children_length, lifted_now, moved_count, moved_there}
use Rattle.chess_tree.proofs.arena.siblings.lift.Goals as goal

pub renumber-requires-clause-node : goal.renumber-requires-clause-node
renumber-requires-clause-node g c = omega (arith, c.requires.node, children_length _ _ _ _ c.requires.node c.move_first.ensures)

pub renumber-requires-clause-children : goal.renumber-requires-clause-children
renumber-requires-clause-children g c = moved_there c.args.nodes.now c.move_first.new.self c.args.at c.args.place c.requires.node c.requires.child c.requires.children c.move_first.ensures

pub renumber-requires-clause-end : goal.renumber-requires-clause-end
renumber-requires-clause-end g c = omega (arith, c.requires.child, moved_count c.args.nodes.now c.move_first.new.self c.args.at c.args.place c.requires.node c.requires.child c.requires.children c.move_first.ensures)

pub returns : goal.returns
returns g c = lifted_now c.args.nodes.now c.move_first.new.self c.args.at c.args.place c.requires.node c.requires.child c.requires.children c.renumber.new.nodes c.move_first.ensures (c.renumber.ensures ∙ ap (λ (x : ℕ). placed 0 (take x (entry_at c.move_first.new.self c.args.at).children) c.move_first.new.self) (omega arith))

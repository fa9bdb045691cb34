use Rattle.std.proofs.Common.{arith}
use Rattle.chess_tree.proofs.PlacedLemmas.{children_length, detached_now, removed_count, removed_there}
use Rattle.chess_tree.proofs.arena.siblings.detach.Goals as goal

pub child_count-count-requires-clause-there : goal.child_count-count-requires-clause-there
child_count-count-requires-clause-there g c = omega (arith, c.requires.node, children_length _ _ _ _ c.requires.node c.remove_child.ensures)

pub child_count-count-requires-clause-few : goal.child_count-count-requires-clause-few
child_count-count-requires-clause-few g c = omega (arith, c.requires.few, removed_count c.args.nodes.now c.remove_child.new.self c.args.at c.args.place c.requires.node c.requires.child c.requires.children c.remove_child.ensures)

pub renumber-requires-clause-node : goal.renumber-requires-clause-node
renumber-requires-clause-node g c = omega (arith, c.requires.node, children_length _ _ _ _ c.requires.node c.remove_child.ensures)

pub renumber-requires-clause-children : goal.renumber-requires-clause-children
renumber-requires-clause-children g c = removed_there c.args.nodes.now c.remove_child.new.self c.args.at c.args.place c.requires.node c.requires.child c.requires.children c.remove_child.ensures

pub renumber-requires-clause-order : goal.renumber-requires-clause-order
renumber-requires-clause-order g c = omega (arith, c.requires.child, c.child_count-count.ensures, removed_count c.args.nodes.now c.remove_child.new.self c.args.at c.args.place c.requires.node c.requires.child c.requires.children c.remove_child.ensures)

pub renumber-requires-clause-end : goal.renumber-requires-clause-end
renumber-requires-clause-end g c = omega (arith, c.child_count-count.ensures)

pub returns : goal.returns
returns g c = detached_now c.args.nodes.now c.remove_child.new.self c.args.at c.args.place c.requires.node c.requires.child c.requires.children c.renumber.new.nodes c.child_count-count.result c.remove_child.ensures c.child_count-count.ensures c.renumber.ensures

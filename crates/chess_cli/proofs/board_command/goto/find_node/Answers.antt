use Rattle.std.proofs.Common.{List, ℕ, Bor}
use Rattle.std.specs.Prelude.{option_map}
use Rattle.chess_cli.proofs.GotoLemmas.{found_bad, found_none, found_on, found_there}
use Rattle.chess_cli.proofs.board_command.goto.find_node.Goals as goal

pub returns-in_default-number_in : goal.returns-in_default-number_in
returns-in_default-number_in g c = found_bad c.args.tree.now c.args.word.now c.requires c.cut.result.0.now _ (option_map (λ (text : Bor (List ℕ)). text.now) c.cut.result.1) _ _ c.loop-rest.invariant (cc) (cc)

pub loop-rest-preserved : goal.loop-rest-preserved
loop-rest-preserved g c = found_on c.args.word.now c.cut.result.0.now _ _ _ _ _ c.in-Some-number_in.place c.loop-rest.invariant (cc) (cc) c.child_of-node.ensures

pub returns-in-Some-node : goal.returns-in-Some-node
returns-in-Some-node g c = found_there c.args.tree.now c.args.word.now c.requires _ c.in-Some-node.field-0 (cc) (rw c.in-Some-node.is at c.loop-rest.invariant)

pub returns-in-None : goal.returns-in-None
returns-in-None g c = found_none c.args.tree.now c.args.word.now c.requires _ (cc) (rw c.in-None.is at c.loop-rest.invariant)

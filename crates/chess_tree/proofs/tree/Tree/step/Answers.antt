use Rattle.std.proofs.Common.{rules}
use Rattle.chess_tree.proofs.KeptLemmas.{kept_down}
use Rattle.chess_tree.proofs.tree.Tree.step.Goals as goal

pub invariant_of-self-2 : goal.invariant_of-self-2
invariant_of-self-2 g c = (kept_down _ _ c.self.invariant _ c.args.place c.down.result c.down.ensures.there c.if-not-down.false (c.down.ensures.path c.if-not-down.false)).0

pub returns : goal.returns
returns g c = record {
  ok = search rules;
  line = rw (← c.self.view_is) (kept_down _ _ c.self.invariant _ c.args.place c.down.result c.down.ensures.there c.if-not-down.false (c.down.ensures.path c.if-not-down.false)).1;
  err = tt;
  no_such = search rules;
}

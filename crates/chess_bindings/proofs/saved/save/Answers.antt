use Rattle.std.proofs.Common.{ap, arith, rules, subst}
use Rattle.chess_pgn.specs.steps.GameCode.{game_of}
use Rattle.chess_salvage.specs.Salvaging.{IsSalvaged, found_in}
use Rattle.chess_bindings.proofs.saved.save.Goals as goal

pub returns-clause-saved : goal.returns-clause-saved
returns-clause-saved g c = record {
  repairs = c.in_ok-found.found.repairs.items;
  cuts = c.in_ok-found.found.cuts.items;
  game = game_of c.in-Some.game;
  salvaged = subst (IsSalvaged c.args.text.now c.in_ok-found.found.repairs.items c.in_ok-found.found.cuts.items c.in_ok-found.found.used) (ap found_in c.in-Some.is) c.in_ok-found.ensures.salvaged;
  goes_on = omega (arith, c.if-found-eq0.false);
  handed = search rules;
  all = c.in_ok-all.all.items;
  named = c.in_ok-all.ensures;
  listed = search rules;
}

use Rattle.std.proofs.Common.{◌∙◌, ◌-◌}
use Rattle.chess_pgn.proofs.KnownLemmas.{at_place, got, no_place}
use Rattle.chess_pgn.proofs.texts.Texts.at.Goals as goal

pub returns-then-place-eq0 : goal.returns-then-place-eq0
returns-then-place-eq0 g c = no_place c.args.self.now c.args.place c.if-place-eq0.true

pub returns : goal.returns
returns g c = got c.deref.result.now (c.args.place - 1) c.get.result c.get.ensures.lookup.0 c.get.ensures.lookup.1 ∙ at_place c.self.inside.known.items c.deref.result.now c.args.self.now c.args.place c.deref.ensures.value c.self.view_is c.if-place-eq0.false

use Rattle.std.proofs.Common.{refl}
use Rattle.chess_salvage.specs.Salvaging.{found_in}
use Rattle.arbiter.specs.Collections.{Bad}
use Rattle.arbiter.proofs.judge.RowMaker.bad.Goals as goal

pub returns-clause-row : goal.returns-clause-row
returns-clause-row c = (
  Bad c.args.fault (found_in c.in_ok-found.found.game) c.in_ok-heading.heading c.in_ok-roster.roster,
  (c.requires.place, c.requires.kind, c.requires.none, c.requires.goes_on, c.given_up.ensures, (c.in_ok-found.found.repairs.items, c.in_ok-found.found.cuts.items, c.in_ok-found.found.used, c.in_ok-found.ensures.salvaged), c.in_ok-heading.ensures, c.in_ok-roster.ensures),
  refl,
  c.in_ok-text.ensures,
)

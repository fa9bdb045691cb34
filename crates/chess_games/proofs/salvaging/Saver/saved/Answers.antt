use Rattle.std.proofs.Common.{refl}
use Rattle.chess_pgn.specs.steps.GameCode.{game_of}
use Rattle.chess_games.specs.Salvaged.{Saved}
use Rattle.chess_games.proofs.salvaging.Saver.saved.Goals as goal

pub returns-clause-row : goal.returns-clause-row
returns-clause-row c = (
  Saved (game_of c.args.game.now),
  record { none = c.requires.none; goes_on = c.requires.goes_on; some = c.requires.some; repairs = c.args.found.now.repairs.items; cuts = c.args.found.now.cuts.items; salvaged = c.requires.salvaged },
  refl,
  c.in_ok-text.ensures,
)

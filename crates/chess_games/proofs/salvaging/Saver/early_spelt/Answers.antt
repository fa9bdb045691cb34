use Rattle.std.proofs.Common.{rules, refl}
use Rattle.chess_pgn.specs.Reading.{BeginsWithGame}
use Rattle.chess_pgn.specs.steps.GameCode.{game_of}
use Rattle.chess_games.specs.Salvaged.{Good}
use Rattle.chess_games.proofs.salvaging.Saver.early_spelt.Goals as goal

-- a good game
pub returns-in-Ok-clause-row : goal.returns-in-Ok-clause-row
returns-in-Ok-clause-row c =
    let begins : BeginsWithGame c.args.bytes.now (game_of c.in-Ok-Some.game) c.in-Ok-Some.used = search rules in
    (Good (game_of c.in-Ok-Some.game), begins, refl, c.in-Ok.ensures)

use Rattle.std.proofs.Common.{rules, refl}
use Rattle.chess_pgn.specs.Reading.{BeginsWithGame}
use Rattle.chess_pgn.specs.steps.GameCode.{game_of}
use Rattle.chess_games.specs.Salvaged.{Good}
use Rattle.chess_games.proofs.SavingLemmas.{fault_found}
use Rattle.chess_games.proofs.salvaging.Saver.spelt.Goals as goal

-- a good game
pub returns-in-Ok-clause-row : goal.returns-in-Ok-clause-row
returns-in-Ok-clause-row c =
    let begins : BeginsWithGame c.args.bytes.now (game_of c.in-Ok-Some.game) c.in-Ok-Some.used = search rules in
    (Good (game_of c.in-Ok-Some.game), begins, refl, c.in-Ok.ensures)

-- another
pub unread-requires : goal.unread-requires
unread-requires c = record { first = c.requires.first; few = c.requires.few; none = fault_found c.args.bytes.now c.in-Err.fault c.in_default.not-Memory c.in-Err.ensures.fault }

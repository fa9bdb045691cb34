use Rattle.std.proofs.Common.{rules}
use Rattle.chess_pgn.specs.steps.GameCode.{game_of}
use Rattle.chess_bindings.proofs.GameLemmas.{pass_bad, pass_game, some_found}
use Rattle.chess_bindings.proofs.games.passed.Goals as goal

pub returns-in-Ok-Some : goal.returns-in-Ok-Some
returns-in-Ok-Some g c =
    pass_game c.args.text.now (game_of c.in-Ok-Some.found) _ _
    (some_found _ c.in-Ok-Some.field-0 (c.in-Ok-Some.found, c.in-Ok-Some.end) c.in-Ok-Some.ensures.game c.in-Ok-Some.field-0-is)

pub returns-else-not-is_of_text : goal.returns-else-not-is_of_text
returns-else-not-is_of_text g c =
    pass_bad c.args.text.now c.in-Err.fault.kind _ _ (search rules) c.in-Err.ensures.fault (λ w. (c.in-Err.ensures.white w).1) c.given_up.ensures

use Rattle.std.proofs.Common.{rules}
use Rattle.chess_pgn.specs.steps.GameCode.{game_of}
use Rattle.chess_bindings.proofs.GameLemmas.{report_told, some_found}
use Rattle.chess_bindings.proofs.games.report.Goals as goal

pub returns-in-Ok : goal.returns-in-Ok
returns-in-Ok g c =
    report_told c.args.text.now (game_of c.in-Ok-Some.found) _ _ _ _ _ _ _ _ _
    (some_found _ c.in-Ok-Some.field-0 (c.in-Ok-Some.found, c.in-Ok-Some.taken) c.in-Ok-Some.ensures.game c.in-Ok-Some.field-0-is) (search rules) (search rules)

use Rattle.std.proofs.Common.{◌∙◌, rules, sym}
use Rattle.chess_pgn.specs.steps.GameCode.{game_of}
use Rattle.chess_bindings.proofs.GameLemmas.{some_found}
use Rattle.chess_bindings.proofs.SavedLemmas as of
use Rattle.chess_bindings.proofs.saved.saved_game.Goals as goal

pub returns-in-Ok : goal.returns-in-Ok
returns-in-Ok g c =
    of.read_game c.args.text.now (game_of c.in-Ok-Some.found) _ _ _ _ _ _ _ _ _
    (some_found _ c.in-Ok-Some.field-0 (c.in-Ok-Some.found, c.in-Ok-Some.taken) c.in-Ok-Some.ensures.game c.in-Ok-Some.field-0-is) (search rules)

pub returns-in-Ok-Some-save : goal.returns-in-Ok-Some-save
returns-in-Ok-Some-save g c =
    of.saved_game c.args.text.now c.in-Err.fault.kind _ _ _ _ _ _ _ _ _ _ _ (search rules) c.in-Err.ensures.fault (λ w. (c.in-Err.ensures.white w).1) (sym c.is_end.ensures ∙ c.if-is_end.false)
    (some_found _ c.in-Ok-Some-save.field-0 c.in-Ok-Some-save.code c.in-Ok-Some-save.ensures.saved c.in-Ok-Some-save.field-0-is)

pub returns-in-Ok-None-save : goal.returns-in-Ok-None-save
returns-in-Ok-None-save g c =
    of.lost_game c.args.text.now c.in-Err.fault.kind _ _ _ _ c.save.new.used _ _ _ _ _ _ _ (search rules) c.in-Err.ensures.fault (λ w. (c.in-Err.ensures.white w).1) (sym c.is_end.ensures ∙ c.if-is_end.false) (search rules) c.given_up.ensures
    (c.in-Ok-None-save.ensures.none c.in-Ok-None-save.field-0-is)

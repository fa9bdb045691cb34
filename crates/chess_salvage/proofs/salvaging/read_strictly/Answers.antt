use Rattle.std.proofs.Common.{◌∙◌, ◌-◌, inl, inr, rules, [], length, take, drop, ap, sym, subst, Ok}
use Rattle.chess_pgn.specs.steps.GameCode.{game_of}
use Rattle.chess_salvage.specs.Salvaging.{HoldsFound, found_in}
use Rattle.chess_salvage.proofs.SalvagingLemmas.{fault_read, none_read, parted}
use Rattle.chess_salvage.proofs.salvaging.read_strictly.Goals as goal

-- the text is white
pub returns-in-Ok-None-clause-read : goal.returns-in-Ok-None-clause-read
returns-in-Ok-None-clause-read g c =
    subst (λ x. HoldsFound c.args.text.now [] (found_in x)) (sym c.requires)
    (inl (inl (none_read c.args.text.now c.read_game.result (c.in-Ok-None.is ∙ ap Ok c.in-Ok-None.field-0-is) c.read_game.ensures.only)))

-- nothing else comes after the game
pub returns-then-branch-clause-read : goal.returns-then-branch-clause-read
returns-then-branch-clause-read g c =
    let used = c.in-Ok-Some.used in
    let text = c.args.text.now in
    let parts = parted used text (search rules) in
    (used, take (length text - used) (drop used text), search rules, (take used text, parts.0, parts.1), c.in_ok-is_white-in-Ok-Some.ensures.white c.if-branch.true)

-- something does
pub returns-else-branch-clause-read : goal.returns-else-branch-clause-read
returns-else-branch-clause-read g c =
    let used = c.in-Ok-Some.used in
    let text = c.args.text.now in
    let parts = parted used text (search rules) in
    subst (λ x. HoldsFound text [] (found_in x)) (sym c.requires)
    (inl (inr (game_of c.in-Ok-Some.found, used, take used text, take (length text - used) (drop used text), search rules, parts.0, parts.1, c.in_ok-is_white-in-Ok-Some.ensures.dark c.if-branch.false)))

-- an item is refused
pub returns-in_default : goal.returns-in_default
returns-in_default g c = record { read = tt; fault = (c.requires, fault_read c.args.text.now c.in-Err.fault c.in_default.not-Memory c.in-Err.ensures.fault) }

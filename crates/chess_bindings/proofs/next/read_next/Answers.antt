use Rattle.std.proofs.Common.{rules, subst, sym}
use Rattle.chess_pgn.specs.steps.GameCode.{game_of}
use Rattle.chess_bindings.specs.Next.{BeginsAnyhow}
use Rattle.chess_bindings.proofs.NextLemmas.{bad_next, found_next, fresh, wants_next, wants_pass, white_next}
use Rattle.chess_bindings.proofs.next.read_next.Goals as goal

pub returns-in-Ok-Some-clause-game : goal.returns-in-Ok-Some-clause-game
returns-in-Ok-Some-clause-game g c =
    subst (λ game. BeginsAnyhow c.args.text.now c.args.is_last (game_of game) c.used.result) (sym c.in-Ok-Some.game-is)
    (found_next c.args.text.now c.args.is_last c.new-games.result c.next.new.self c.next.result c.in-Ok-Some.game c.used.result
    (fresh _ _ _ _ c.new.ensures c.new-games.ensures.source c.new-games.ensures.nothing c.new-games.ensures.reads c.new-games.ensures.none c.new-games.ensures.used) c.next.ensures (search rules) c.used.ensures)

pub returns-in-Ok-None-clause-none : goal.returns-in-Ok-None-clause-none
returns-in-Ok-None-clause-none g c =
    white_next c.args.text.now c.args.is_last c.new-games.result c.next.new.self c.next.result _
    (fresh _ _ _ _ c.new.ensures c.new-games.ensures.source c.new-games.ensures.nothing c.new-games.ensures.reads c.new-games.ensures.none c.new-games.ensures.used) c.next.ensures (search rules)

pub returns-in-Err-Read-clause-none : goal.returns-in-Err-Read-clause-none
returns-in-Err-Read-clause-none g c =
    wants_next c.args.text.now c.args.is_last c.new-games.result c.next.new.self c.next.result _
    (fresh _ _ _ _ c.new.ensures c.new-games.ensures.source c.new-games.ensures.nothing c.new-games.ensures.reads c.new-games.ensures.none c.new-games.ensures.used) c.next.ensures (search rules)

pub returns-in-Ok-clause-none : goal.returns-in-Ok-clause-none
returns-in-Ok-clause-none g c =
    bad_next c.args.text.now c.args.is_last c.new-games.result c.next.new.self c.pass_over.new.self c.next.result c.in-Err-Pgn.fault c.pass_over.result c.in-Ok.field-0 _ _ _
    (fresh _ _ _ _ c.new.ensures c.new-games.ensures.source c.new-games.ensures.nothing c.new-games.ensures.reads c.new-games.ensures.none c.new-games.ensures.used) c.next.ensures (search rules) (search rules) (search rules) c.pass_over.ensures.gives_up c.pass_over.ensures.good c.pass_over.ensures.sound c.fault_code.ensures c.used-in-Ok.ensures

pub returns-in-Err-Read-pass_over-clause-none : goal.returns-in-Err-Read-pass_over-clause-none
returns-in-Err-Read-pass_over-clause-none g c =
    wants_pass c.args.text.now c.args.is_last c.new-games.result c.next.new.self c.pass_over.new.self c.next.result c.in-Err-Pgn.fault c.pass_over.result _
    (fresh _ _ _ _ c.new.ensures c.new-games.ensures.source c.new-games.ensures.nothing c.new-games.ensures.reads c.new-games.ensures.none c.new-games.ensures.used) c.next.ensures (search rules) (search rules) (search rules) c.pass_over.ensures.in_part

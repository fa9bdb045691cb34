use Rattle.std.proofs.Common.{List, ℕ, Bor}
use Rattle.std.specs.Prelude.{option_map}
use Rattle.chess_cli.proofs.GotoLemmas.{gone_all, is_child, is_number}
use Rattle.chess_cli.proofs.board_command.goto.follow.Goals as goal

pub unreachable-requires : goal.unreachable-requires
unreachable-requires g c =
    is_number c.args.word.now c.cut.result.0.now _ (option_map (λ (text : Bor (List ℕ)). text.now) c.cut.result.1) c.args.analysis.now c.loop-rest.analysis c.requires.numbers c.requires.there c.loop-rest.invariant (cc) (cc)

pub unreachable-requires-in_default-step : goal.unreachable-requires-in_default-step
unreachable-requires-in_default-step g c =
    is_child c.args.word.now c.cut.result.0.now _ (option_map (λ (text : Bor (List ℕ)). text.now) c.cut.result.1) c.args.analysis.now c.loop-rest.analysis c.requires.numbers c.requires.there c.loop-rest.invariant (cc) c.in-Some-number_in.place (cc)
    c.in_default-step.ensures.no_such.1

pub returns : goal.returns
returns g c = gone_all c.args.word.now _ c.args.analysis.now c.loop-rest.analysis c.requires.numbers c.requires.there (cc) c.loop-rest.invariant

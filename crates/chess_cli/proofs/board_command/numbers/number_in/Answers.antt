use Rattle.std.proofs.Common.{◌∙◌}
use Rattle.chess_cli.proofs.NumberLemmas.{no_number, number_is_text, number_read}
use Rattle.chess_cli.proofs.board_command.numbers.number_in.Goals as goal

pub returns-then-not-is_number : goal.returns-then-not-is_number
returns-then-not-is_number c = no_number c.args.word.now (cc)

pub returns-in_default : goal.returns-in_default
returns-in_default c = absurd (c.in_default.ensures.cases.0 (number_is_text c.args.word.now (cc)))

pub returns : goal.returns
returns c =
    let parsed = rw c.in-Ok.ensures.cases.0 at c.parse.ensures.value.0 in
    c.ok.ensures.value ∙ number_read c.args.word.now c.parse.result (cc) parsed

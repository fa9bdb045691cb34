use Rattle.std.proofs.Common.{◌++◌, ◌∷◌, [], List, ℕ, sym, ap, ◌∙◌, arith}
use Rattle.std.proofs.lemmas.Fmt.{decimal_digit}
use Rattle.chess_cli.proofs.board_command.texts.push_number.Goals as goal

pub returns-then-number-lt10-clause-bytes : goal.returns-then-number-lt10-clause-bytes
returns-then-number-lt10-clause-bytes c =
    c.push.ensures.ascii (omega arith) ∙ ap (λ (t : List ℕ). c.args.text.now.bytes ++ t) (ap (λ (n : ℕ). n ∷ []) c.from.ensures ∙ sym (decimal_digit c.args.number (omega arith)))

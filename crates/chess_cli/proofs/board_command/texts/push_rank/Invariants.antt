use Rattle.std.proofs.Common.{◌≡◌, ◌+◌, ◌*◌, ◌-◌, ◌≤◌, ◌++◌}
use Rattle.std.specs.Prelude.{codes, decimal}
use Rattle.arrayvec.specs.ArrayString.{array_string_len}
use Rattle.chess_cli.proofs.TextLemmas.{run}
use Rattle.chess_cli.proofs.board_command.texts.push_rank.Given as goal

abbrev pub invariant-loop-file : goal.invariant-loop-file
invariant-loop-file g l = record {
  bytes : l.text.bytes ≡ l.initial.text.bytes ++ run (codes " ") (λ file. decimal (g.K.Kept.counts l.kept l.colour (8 * l.rank + file))) 1 (l.file - 1);
  len : array_string_len l.text + 4 ≤ array_string_len l.initial.text + 4 * l.file;
}

use Rattle.std.proofs.Common.{◌≡◌, ◌+◌, ◌*◌, ◌-◌, ◌≤◌, ◌++◌}
use Rattle.std.specs.Prelude.{codes}
use Rattle.arrayvec.specs.ArrayString.{array_string_len}
use Rattle.chess_cli.specs.Answers.{rank_numbers}
use Rattle.chess_cli.proofs.TextLemmas.{run}
use Rattle.chess_cli.proofs.board_command.texts.counts_text.Given as goal

abbrev pub invariant-loop-rank : goal.invariant-loop-rank
invariant-loop-rank g l = record {
  bytes : l.text.bytes ≡ l.initial.text.bytes ++ run (codes " / ") (rank_numbers (g.K.Kept.counts l.kept l.colour)) 1 (l.rank - 1);
  len : array_string_len l.text + 34 ≤ array_string_len l.initial.text + 34 * l.rank;
}

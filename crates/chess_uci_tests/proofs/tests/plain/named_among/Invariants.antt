use Rattle.std.proofs.Common.{◌≡◌, ◌≤◌, take}
use Rattle.std.specs.Prelude.{filter}
use Rattle.chess_types.specs.board.Texts.{move_text}
use Rattle.arrayvec.specs.ArrayVec.{array_vec_len}
use Rattle.chess_uci_tests.specs.Named.{is_named}
use Rattle.chess_uci_tests.proofs.tests.plain.named_among.Given as goal

abbrev pub invariant-loop-m : goal.invariant-loop-m
invariant-loop-m l = record {
  named : l.named.items ≡ filter (λ m. is_named (move_text m)) (take l.m-index l.m-items);
  few : array_vec_len l.named ≤ l.m-index;
}

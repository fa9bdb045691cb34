use Rattle.std.proofs.Common.{◌≡◌, ◌≤◌, take}
use Rattle.std.specs.Prelude.{filter}
use Rattle.chess_types.specs.board.Texts.{move_text}
use Rattle.byte_streams.specs.Words.{words}
use Rattle.chess_uci.specs.Commands.{gaps}
use Rattle.chess_uci.specs.Go.{is_listed}
use Rattle.arrayvec.specs.ArrayVec.{array_vec_len}
use Rattle.chess_uci.proofs.roots.listed.Given as goal

abbrev pub invariant-loop-m : goal.invariant-loop-m
invariant-loop-m l = record {
  found : l.found.items ≡ filter (λ m. is_listed (move_text m) (words gaps l.list)) (take l.m-index l.m-items);
  few : array_vec_len l.found ≤ l.m-index;
}

use Rattle.std.proofs.Common.{◌≡◌, ◌+◌, ◌*◌, Some, length, drop, map}
use Rattle.chess_fen.specs.Ranks.{cells_of_ranks}
use Rattle.chess_fen.proofs.ranks.read_cells.Given as goal

abbrev pub invariant-loop-rank : goal.invariant-loop-rank
invariant-loop-rank l = record {
  room : l.from + 8 * length l.yielded ≡ 64;
  done : Some (drop l.from l.cells) ≡ cells_of_ranks (map (λ rank. rank.now) l.yielded);
}

use Rattle.std.proofs.Common.{◌≡◌, length, map}
use Rattle.chess_uci.specs.Tables.{beside}
use Rattle.chess_uci.proofs.table.beside.Given as goal

abbrev pub invariant-loop-rest : goal.invariant-loop-rest
invariant-loop-rest g l = beside (map (λ row. (row.0.now, row.1)) l.rest) l.word ≡ beside (map (λ row. (row.0.now, row.1)) l.table) l.word

abbrev pub decreases-loop-rest : goal.decreases-loop-rest
decreases-loop-rest g l = length l.rest

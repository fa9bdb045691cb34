use Rattle.std.proofs.Common.{◌≡◌, ◌++◌, map, take}
use Rattle.chess_items.specs.Items.{without_brace}
use Rattle.chess_pgn.proofs.reader.moves.push_line.Given as goal

abbrev pub invariant-loop-b : goal.invariant-loop-b
invariant-loop-b g l = l.text.items ≡ l.fn.text.items ++ map without_brace (take l.b-index l.line)

use Rattle.std.proofs.Common.{◌≡◌, take, min}
use Rattle.chess_items.specs.Items.{digits_value}
use Rattle.chess_items.proofs.lexer.digits_value.Given as goal

abbrev pub invariant-loop-d : goal.invariant-loop-d
invariant-loop-d l = l.n ≡ min (digits_value 0 (take l.d-index l.digits)) 1000

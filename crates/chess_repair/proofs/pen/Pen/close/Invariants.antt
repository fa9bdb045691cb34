use Rattle.std.proofs.Common.{◌≡◌, ◌+◌, length}
use Rattle.chess_repair.specs.Ends.{EndsGame}
use Rattle.chess_repair.specs.Repairs.{Rewrites}
use Rattle.chess_repair.proofs.pen.Pen.close.Given as goal

abbrev pub invariant-loop : goal.invariant-loop
invariant-loop g l = record {
  rewrites : Rewrites (length l.self-inside.text.now) l.self-inside.text.now l.self-inside.repairs.items l.self-inside.out.items l.self-inside.rest.now;
  same : l.self-inside.text.now ≡ l.fn.self;
  closes : EndsGame l.self-inside.rest.now;
  placed : l.repair.place + length l.self-inside.rest.now ≡ length l.self-inside.text.now;
}

use Rattle.std.proofs.Common.{rules}
use Rattle.chess_san.specs.Naming.{san_reading}
use Rattle.chess_san.proofs.GoesLemmas.{read_legal}
use Rattle.chess_san.proofs.reader.read.Goals as goal

pub returns-in-Some-clause-value : goal.returns-in-Some-clause-value
unfolding san_reading
returns-in-Some-clause-value g c = search rules

pub returns-in-Some-clause-legal : goal.returns-in-Some-clause-legal
returns-in-Some-clause-legal g c = read_legal c.args.live.now.position c.args.text.now c.named.result (returns-in-Some-clause-value g c)

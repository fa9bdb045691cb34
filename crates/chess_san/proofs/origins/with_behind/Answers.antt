use Rattle.std.proofs.Common.{◌*◌}
use Rattle.chess_san.proofs.OriginLemmas.{behind_set}
use Rattle.chess_san.proofs.origins.with_behind.Goals as goal

pub returns-in-Some : goal.returns-in-Some
returns-in-Some c = λ s hs. behind_set c.args.set c.insert.new.self c.args.side (8 * c.args.ranks) c.in-Some.from c.args.to c.insert.ensures c.in-Some.ensures.found s

use Rattle.std.proofs.Common.{arith}
use Rattle.std.specs.FinSet.{empty}
use Rattle.chess_san.proofs.OriginLemmas.{square_has}
use Rattle.chess_san.proofs.reader.square_on.Goals as goal

pub returns-then-rank-lt8 : goal.returns-then-rank-lt8
returns-then-rank-lt8 c = λ s hs hf hr. square_has empty c.single.result c.at.result c.args.file c.args.rank c.single.ensures (omega arith) s hf hr

use Rattle.std.proofs.Common.{sym}
use Rattle.chess_key.proofs.KeyLaws.{key_of-empty}
use Rattle.chess_key.proofs.keys.Key.empty.Goals as goal

pub returns-clause-agrees : goal.returns-clause-agrees
returns-clause-agrees c = sym (key_of-empty c.args.table.now)

use Rattle.std.proofs.Common.{rules}
use Rattle.chess_c.proofs.CallLemmas.{replying_within_some}
use Rattle.chess_c.proofs.engine.jatshegi_engine_slice_within.Goals as goal

pub returns-clause-replying : goal.returns-clause-replying
returns-clause-replying c =
    replying_within_some _ _ _ c.in-Some.session.value c.slice_of_engine-code.new.self _ _ _ _ _ _ _ _ _ (search rules) (search rules) (search rules) (search rules) (search rules) (search rules)

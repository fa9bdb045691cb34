use Rattle.std.proofs.Common.{rules}
use Rattle.chess_c.proofs.CallLemmas.{acts_some}
use Rattle.chess_c.proofs.life.jatshegi_board_set.Goals as goal

pub returns : goal.returns
returns c = acts_some _ _ _ c.in-Some.session.value c.set-ended.new.self c.set-ended.result _ (search rules) (search rules) (search rules) (search rules)

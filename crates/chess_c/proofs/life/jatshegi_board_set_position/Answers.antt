use Rattle.std.proofs.Common.{rules}
use Rattle.chess_c.proofs.CallLemmas.{acts_some}
use Rattle.chess_c.proofs.life.jatshegi_board_set_position.Goals as goal

pub returns : goal.returns
returns c = acts_some _ _ _ c.in-Some.session.value c.set_position-ended.new.board c.set_position-ended.result _ (search rules) (search rules) (search rules) (search rules)

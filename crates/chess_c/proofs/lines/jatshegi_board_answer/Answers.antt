use Rattle.std.proofs.Common.{rules}
use Rattle.chess_c.proofs.CallLemmas.{answered_some}
use Rattle.chess_c.proofs.lines.jatshegi_board_answer.Goals as goal

pub returns : goal.returns
returns c = answered_some _ _ _ c.in-Some.session.value c.answer-code.new.self _ _ _ _ _ (search rules) (search rules) (search rules) (search rules) (search rules) (search rules)

use Rattle.std.proofs.Common.{rules}
use Rattle.chess_c.proofs.CallLemmas.{acts_some, says_added}
use Rattle.chess_c.proofs.edits.jatshegi_board_play_text.Goals as goal

pub returns-clause-acts : goal.returns-clause-acts
returns-clause-acts c = acts_some _ _ _ c.in-Some.session.value c.play_text-ended.new.board c.play_text-ended.result _ (search rules) (search rules) (search rules) (search rules)

pub returns-clause-adds : goal.returns-clause-adds
returns-clause-adds c = says_added _ _ c.in-Some.session.value c.play_text-ended.result _ _ _ (search rules) (search rules) (search rules)

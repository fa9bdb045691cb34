use Rattle.std.proofs.Common.{rules}
use Rattle.chess_c.proofs.CallLemmas.{acts_on_heading}
use Rattle.chess_c.proofs.tags.jatshegi_board_set_tag.Goals as goal

pub returns : goal.returns
returns c = acts_on_heading _ _ _ c.in-Some.session.value c.set_tag-code.new.heading _ (search rules) (search rules) (search rules)

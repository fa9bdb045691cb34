use Rattle.std.proofs.Common.{rules}
use Rattle.chess_c.proofs.CallLemmas.{loaded_next}
use Rattle.chess_c.proofs.life.jatshegi_board_load_next.Goals as goal

pub returns : goal.returns
returns c = loaded_next _ _ _ _ c.in-Some.session.value c.load_next-code.new.self _ _ _ (search rules) (search rules) (search rules) (search rules) (search rules)

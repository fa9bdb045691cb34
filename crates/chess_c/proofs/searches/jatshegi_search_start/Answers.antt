use Rattle.std.proofs.Common.{rules}
use Rattle.chess_c.proofs.CallLemmas.{begun_some}
use Rattle.chess_c.proofs.searches.jatshegi_search_start.Goals as goal

pub returns : goal.returns
returns c = begun_some _ _ _ c.in-Some.session.value c.begin-code.new.self _ (search rules) (search rules) (search rules) (search rules) (search rules) (search rules)

use Rattle.std.proofs.Common.{rules}
use Rattle.chess_c.proofs.CallLemmas.{sliced_some}
use Rattle.chess_c.proofs.searches.jatshegi_search_slice.Goals as goal

pub returns : goal.returns
returns c = sliced_some _ _ c.in-Some.session.value c.slice-code.new.self _ _ _ (search rules) (search rules) (search rules) (search rules) (search rules) (search rules)

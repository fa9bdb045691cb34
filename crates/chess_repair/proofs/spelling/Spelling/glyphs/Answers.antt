use Rattle.std.proofs.Common.{rules, take}
use Rattle.chess_repair.proofs.RewriteLemmas.{first_two}
use Rattle.chess_repair.proofs.spelling.Spelling.glyphs.Goals as goal

pub mend-requires : goal.mend-requires
mend-requires g c = first_two (take c.min.result c.args.rest.now) (search rules) (search rules)

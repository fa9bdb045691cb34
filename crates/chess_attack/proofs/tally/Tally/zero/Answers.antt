use Rattle.std.proofs.lemmas.List.{get_or-replicate}
use Rattle.chess_types.specs.declared.board.man.Colour.TheVariants.{White, Black}
use Rattle.chess_attack.proofs.tally.Tally.zero.Goals as goal

pub returns-clause-counts : goal.returns-clause-counts
returns-clause-counts c White s h = get_or-replicate 64 s 0 0 h
returns-clause-counts c Black s h = get_or-replicate 64 s 0 0 h

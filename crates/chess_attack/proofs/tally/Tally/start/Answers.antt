use Rattle.chess_types.specs.declared.board.man.Colour.TheVariants.{White, Black}
use Rattle.chess_attack.proofs.StartCounts.{white_is, black_is}
use Rattle.chess_attack.proofs.tally.Tally.start.Goals as goal

pub returns-clause-counts : goal.returns-clause-counts
returns-clause-counts c White s low = white_is s low
returns-clause-counts c Black s low = black_is s low

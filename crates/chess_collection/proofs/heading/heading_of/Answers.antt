use Rattle.std.proofs.Common.{codes}
use Rattle.chess_collection.proofs.HeadingLemmas.{named}
use Rattle.chess_collection.proofs.heading.heading_of.Goals as goal

pub returns : goal.returns
returns c = named c.args.text.now (codes "Result") (codes "FEN") (codes "SetUp") c.in_ok-three.three c.of.result c.in_ok-three.ensures c.of.ensures.result c.of.ensures.fen c.of.ensures.set_up

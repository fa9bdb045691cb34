use Rattle.std.proofs.Common.{◌+◌, arith}
use Rattle.chess_items.proofs.UnendedLemmas.{fewer_undecided}
use Rattle.chess_items.proofs.taking.exceeds.Goals as goal

pub is_undecided-requires-clause-looked : goal.is_undecided-requires-clause-looked
is_undecided-requires-clause-looked c =
    fewer_undecided c.args.place c.args.bytes.now c.min.result c.args.looked (c.args.most + 1) (omega (arith, c.min.ensures)) (omega (arith, c.min.ensures)) c.requires.looked

use Rattle.chess_items.proofs.RefillLemmas.{broken, placed_now, refilled}
use Rattle.chess_items.proofs.at_hand.AtHand.refill.Goals as goal

pub returns-clause-refilled : goal.returns-clause-refilled
returns-clause-refilled g c =
    refilled g.R.Source.gives g.R.Source.ended g.R.Source.failed c.args.self.now c.keep.new.self c.read_more.new.self c.keep.ensures.source c.keep.ensures.reads c.keep.ensures.ended (placed_now c.keep.new.self.used 0 _ _ c.keep.ensures.len c.keep.ensures.used) c.read_more.result c.keep.ensures.len c.read_more.ensures.prolonged

pub returns-clause-broken : goal.returns-clause-broken
returns-clause-broken g c =
    broken g.R.Source.gives g.R.Source.ended g.R.Source.failed c.args.self.now c.keep.new.self c.read_more.new.self c.keep.ensures.source c.keep.ensures.reads c.keep.ensures.ended (placed_now c.keep.new.self.used 0 _ _ c.keep.ensures.len c.keep.ensures.used) c.read_more.result c.read_more.ensures.broken

use Rattle.chess_items.proofs.ReadyLemmas.{Going}
use Rattle.chess_items.proofs.at_hand.AtHand.read_until_decided.Given as goal

abbrev pub invariant-loop-place : goal.invariant-loop-place
invariant-loop-place g l = Going g.R.Source.gives g.R.Source.ended g.R.Source.failed l.most l.place l.looked l.fn.self l.self

abbrev pub decreases-loop-place : goal.decreases-loop-place
decreases-loop-place g l = l.self.reads

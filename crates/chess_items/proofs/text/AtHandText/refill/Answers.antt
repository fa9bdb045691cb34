use Rattle.chess_items.proofs.RefillLemmas.{refills}
use Rattle.chess_items.proofs.text.AtHandText.refill.Goals as goal

pub returns-clause-refills : goal.returns-clause-refills
returns-clause-refills g c = refills g.R.Source.gives g.R.Source.ended g.R.Source.failed c.args.self.now c.refill.new.self c.refill.result c.refill.ensures.refilled

use Rattle.chess_items.proofs.MadeLemmas.{made_ready}
use Rattle.chess_items.proofs.text.AtHandText.ready.Goals as goal

pub returns-clause-made : goal.returns-clause-made
returns-clause-made g c = made_ready g.R.Source.gives g.R.Source.ended g.R.Source.failed c.args.most c.args.place c.args.self.now c.read_until_decided.new.self c.read_until_decided.result c.read_until_decided.ensures.readied

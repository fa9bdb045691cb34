use Rattle.corpus.proofs.scribe.Scribe.+vary.Given as goal

abbrev pub decreases-vary : goal.decreases-vary
decreases-vary g l = l.deep

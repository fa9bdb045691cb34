use Rattle.chess_repair.proofs.LetterLemmas.{spelt_whole}
use Rattle.chess_repair.proofs.respelling.written.Goals as goal

pub returns : goal.returns
returns g c = spelt_whole c.args.letters c.args.text.now c.loop-rest.spelt.items c.loop-rest.rest.now c.loop-rest.standing c.loop-rest.invariant c.in_default.len_below

use Rattle.chess_games.proofs.FilteredLemmas.{from_fresh, short_fresh}
use Rattle.chess_games.proofs.filter.filter_games.Goals as goal

pub returns-clause-good : goal.returns-clause-good
returns-clause-good g c =
    let new = c.new-games.ensures in
    from_fresh g.R.Source.gives g.R.Source.failed g.R.Source.ended g.W.Sink.takes g.W.Sink.failed c.args.wanted.now.form c.args.wanted.now.part c.args.reader c.new-games.result.text c.args.writer.now c.write_good.new.writer c.write_good.result
    (record { is = new.source; nothing = new.nothing; goes_on = new.goes_on; reads = new.reads; used = new.used }) c.write_good.ensures.good

pub returns-clause-short : goal.returns-clause-short
returns-clause-short g c =
    let new = c.new-games.ensures in
    short_fresh g.R.Source.gives g.R.Source.failed g.R.Source.ended g.W.Sink.takes g.W.Sink.failed c.args.wanted.now.form c.args.wanted.now.part c.args.reader c.new-games.result.text c.args.writer.now c.write_good.new.writer c.write_good.result
    (record { is = new.source; nothing = new.nothing; goes_on = new.goes_on; reads = new.reads; used = new.used }) c.write_good.ensures.off

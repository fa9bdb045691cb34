use Rattle.chess_pgn.proofs.StepLemmas.{begins_in}
use Rattle.chess_pgn.proofs.reader.moves.Moves.begin_in.Goals as goal

pub returns : goal.returns
returns g c = λ first lead h.
    let r = c.args.self.now in
    begins_in r.analysis c.begin_in.new.self r.interrupted.items r.played r.comments.items r.from first c.args.start lead c.begin_in.ensures h

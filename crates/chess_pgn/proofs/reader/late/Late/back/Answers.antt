use Rattle.chess_pgn.proofs.KnownLemmas.{went_back}
use Rattle.chess_pgn.proofs.reader.late.Late.back.Goals as goal

pub invariant_of-self-in-Some-at : goal.invariant_of-self-in-Some-at
invariant_of-self-in-Some-at g c =
    let s = c.self.inside in
    let follows = c.self.invariant in (
      follows.0,
      follows.1,
      (
        went_back s.at c.in-Some-at.place c.before-in-Some-at.result s.texts s.start s.begun c.in-Some.analysis c.deref_mut.result.now c.back.new.self c.in-Some-at.is c.in-Some.is c.deref_mut.ensures.value c.in_ok-back.ensures.line follows.2 c.before-in-Some-at.ensures.line,
        c.before-in-Some-at.ensures.within,
      ),
    )

use Rattle.std.proofs.Common.{Bool, refl, sym, subst}
use Rattle.chess_pgn.specs.steps.ReaderCode.{begins_when}
use Rattle.chess_pgn.proofs.EndLemmas.{finished}
use Rattle.chess_pgn.proofs.reader.Reader.finish.Goals as goal

pub returns-in_ok-begin_moves-clause-game : goal.returns-in_ok-begin_moves-clause-game
returns-in_ok-begin_moves-clause-game g c =
    let old = c.args.self.now in
    let new = c.begin_moves.new.self in
    finished old new c.is_in_variation.result (subst (λ (b : Bool). begins_when b old new) (sym c.if-not-self.true) c.in_ok-begin_moves.ensures.begins)
    c.is_in_variation.ensures c.if-is_in_variation.false

pub returns-else-not-self-clause-game : goal.returns-else-not-self-clause-game
returns-else-not-self-clause-game g c =
    let old = c.args.self.now in
    finished old old c.is_in_variation.result (subst (λ (b : Bool). begins_when b old old) (sym c.if-not-self.false) refl) c.is_in_variation.ensures c.if-is_in_variation.false

use Rattle.std.proofs.Common.{◌≤◌, ◌∙◌, sym, subst}
use Rattle.chess_types.specs.board.Position.{PositionParts}
use Rattle.chess_pgn.proofs.UsualLemmas.{is_start}
use Rattle.chess_pgn.proofs.usual.start_of.Goals as goal

pub returns-clause-start : goal.returns-clause-start
returns-clause-start g c = λ holds.
    is_start c.position.result.now c.args.tree.now.tree.start c.write-fen.result.bytes c.as_bytes.result.now c.is_usual-usual.result c.position.ensures.start c.write-fen.ensures.bytes (c.as_bytes.ensures.value ∙ c.deref.ensures.0)
    (c.write-fen.ensures.read_back (subst (λ (p : PositionParts). p.clock ≤ 99999) (sym c.position.ensures.start) c.position.ensures.game.clock)
    (subst (λ (p : PositionParts). p.number ≤ 99999) (sym c.position.ensures.start) c.position.ensures.game.number))
    c.is_usual-usual.ensures holds

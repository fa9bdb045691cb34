use Rattle.std.proofs.Common.{ap, ◌∙◌}
use Rattle.chess_fen.specs.Writing.{written}
use Rattle.chess_edit.proofs.JoinLemmas.{alike, fen_read}
use Rattle.chess_edit.proofs.joining.begin_alike.Goals as goal

pub returns : goal.returns
returns g c =
    let p = c.args.tree.now.tree.start in
    let q = c.args.other.now.tree.start in
    alike c.is.result c.as_bytes.result.now c.as_bytes-2.result.now p q c.is.ensures
    ((c.as_bytes.ensures.value ∙ c.deref.ensures.0) ∙ c.write-fen.ensures.bytes ∙ ap written c.position.ensures.start)
    ((c.as_bytes-2.ensures.value ∙ c.deref-2.ensures.0) ∙ c.write-other_fen.ensures.bytes ∙ ap written c.position-2.ensures.start)
    (fen_read c.as_bytes.result.now c.write-fen.result.bytes c.position.result.now p (c.as_bytes.ensures.value ∙ c.deref.ensures.0) c.position.ensures.start c.position.ensures.game.clock c.position.ensures.game.number c.write-fen.ensures.read_back)
    (fen_read c.as_bytes-2.result.now c.write-other_fen.result.bytes c.position-2.result.now q (c.as_bytes-2.ensures.value ∙ c.deref-2.ensures.0) c.position-2.ensures.start c.position-2.ensures.game.clock c.position-2.ensures.game.number c.write-other_fen.ensures.read_back)

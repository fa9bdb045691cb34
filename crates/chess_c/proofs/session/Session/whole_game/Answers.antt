use Rattle.std.proofs.Common.{subst}
use Rattle.chess_pgn.specs.Written.{game_text}
use Rattle.chess_bindings.specs.Handed.{IsAnsweredBy}
use Rattle.chess_tree.specs.GameTree.{TreeParts}
use Rattle.chess_c.specs.Held.{Held}
use Rattle.chess_c.proofs.session.Session.whole_game.Goals as goal

pub returns : goal.returns
returns c =
    let session = c.self.inside in
    let written = subst (λ (t : TreeParts). IsAnsweredBy (game_text (record { tags = session.heading.tags; outcome = session.heading.outcome; tree = t.tree }))
    c.whole_game.result c.args.count.now c.whole_game.new.count c.args.room.now c.whole_game.new.room) c.tree.ensures c.whole_game.ensures in
    subst (λ (h : Held). IsAnsweredBy (game_text (record { tags = h.heading.tags; outcome = h.heading.outcome; tree = h.board.tree }))
    c.whole_game.result c.args.count.now c.whole_game.new.count c.args.room.now c.whole_game.new.room) c.self.view_is written

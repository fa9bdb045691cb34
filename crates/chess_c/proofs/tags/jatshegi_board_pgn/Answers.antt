use Rattle.std.proofs.Common.{rules, subst}
use Rattle.chess_pgn.specs.Written.{game_text}
use Rattle.chess_bindings.specs.Handed.{IsAnsweredBy}
use Rattle.chess_c.specs.Held.{Held}
use Rattle.chess_c.proofs.CallLemmas.{asks_heading}
use Rattle.chess_c.proofs.tags.jatshegi_board_pgn.Goals as goal

pub returns : goal.returns
returns c =
    asks_heading _ _ _ _ c.in-Some.session.value _ (search rules) (search rules)
    (subst (λ (h : Held). IsAnsweredBy (game_text (record { tags = h.heading.tags; outcome = h.heading.outcome; tree = h.board.tree }))
    c.whole_game-code.result c.args.count.now c.whole_game-code.new.count c.args.text.now c.whole_game-code.new.room) c.deref.ensures c.whole_game-code.ensures)

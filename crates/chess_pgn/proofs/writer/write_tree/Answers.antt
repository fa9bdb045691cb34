use Rattle.std.proofs.Common.{◌≡◌, subst}
use Rattle.std.specs.Prelude.{IfOk}
use Rattle.chess_items.specs.declared.outcome.Outcome.TheVariants.{Unfinished}
use Rattle.chess_pgn.specs.Games.{Tags}
use Rattle.chess_pgn.specs.Written.{game_text}
use Rattle.chess_pgn.proofs.writer.write_tree.Goals as goal

pub returns-clause-ok : goal.returns-clause-ok
returns-clause-ok g c =
    subst (λ (t : Tags). IfOk c.write_as.result (λ text. text.items ≡ game_text (record { tags = t; outcome = Unfinished; tree = c.args.tree.now.tree }))) c.in_ok-tags.ensures c.write_as.ensures.ok

use Rattle.std.proofs.Common.{◌≡◌, ℕ, Bool, List, refl, inl, rules}
use Rattle.chess_pgn.specs.Games.{Game}
use Rattle.chess_pgn.specs.steps.GameCode.{game_of}
use Rattle.chess_tree.specs.GameTree.{TreeParts}
use Rattle.chess_cli.specs.Loads.{from_root}
use Rattle.chess_bindings.specs.Headings.{HeadingParts}
use Rattle.chess_bindings.specs.Loads.{heading_of}
use Rattle.chess_bindings.specs.Next.{BeginsAnyhow, LoadsNext}
use Rattle.chess_bindings.proofs.next.load_next.Goals as goal

found : (text : List ℕ) → (is_last : Bool) → (game : Game) → (board board' : TreeParts) → (heading heading' : HeadingParts) → (used taken : ℕ) → BeginsAnyhow text is_last game taken
    → board' ≡ from_root game.tree → heading' ≡ heading_of game → LoadsNext text is_last board heading 0 used taken board' heading'
found text is_last game board board' heading heading' used taken begins new known = inl (refl, game, begins, new, known)

pub returns-in-Ok-begin_with : goal.returns-in-Ok-begin_with
returns-in-Ok-begin_with g c =
    found c.args.text.now c.args.is_last (game_of c.in-Ok.game) _ _ _ _ _ _ c.in-Ok.ensures.game (search rules) (search rules)

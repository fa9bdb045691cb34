use Rattle.std.proofs.Common.{◌≡◌, ℕ, List, refl, inl, rules}
use Rattle.chess_pgn.specs.Games.{Game}
use Rattle.chess_pgn.specs.Reading.{BeginsWithGame}
use Rattle.chess_pgn.specs.steps.GameCode.{game_of}
use Rattle.chess_tree.specs.GameTree.{TreeParts}
use Rattle.chess_cli.specs.Loads.{from_root}
use Rattle.chess_bindings.specs.Headings.{HeadingParts}
use Rattle.chess_bindings.specs.Loads.{LoadsFrom, heading_of}
use Rattle.chess_bindings.proofs.GameLemmas.{some_found}
use Rattle.chess_bindings.proofs.loads.load.Goals as goal

found : (text : List ℕ) → (game : Game) → (board board' : TreeParts) → (heading heading' : HeadingParts) → (used taken : ℕ) → BeginsWithGame text game taken
    → board' ≡ from_root game.tree → heading' ≡ heading_of game → LoadsFrom text board heading 0 used taken board' heading'
found text game board board' heading heading' used taken begins new known = inl (refl, game, begins, new, known)

pub returns-in-Ok : goal.returns-in-Ok
returns-in-Ok g c =
    found c.args.text.now (game_of c.in-Ok-Some.game) _ _ _ _ _ _
    (some_found _ c.in-Ok-Some.field-0 (c.in-Ok-Some.game, c.in-Ok-Some.taken) c.in-Ok-Some.ensures.game c.in-Ok-Some.field-0-is) (search rules) (search rules)

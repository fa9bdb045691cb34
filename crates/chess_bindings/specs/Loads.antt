-- A game of a text, loaded into a board.
--   heading_of   what a game's text says beside its moves
--   LoadsFrom    of a board and its heading: it has the tree of the game at the start of the text, the cursor at its root, and the heading what the text says
--                beside, with the number of the bytes that the game takes; or both are as they were, and why no game is there
use Rattle.std.specs.Prelude.{◌≡◌, ◌⊎◌, ℕ, List}
use Rattle.chess_pgn.specs.Games.{Game}
use Rattle.chess_pgn.specs.Reading.{BeginsWithGame}
use Rattle.chess_tree.specs.GameTree.{TreeParts}
use Rattle.chess_cli.specs.Loads.{from_root}
use Rattle.chess_bindings.specs.Codes.{ok}
use Rattle.chess_bindings.specs.Games.{IsNone}
use Rattle.chess_bindings.specs.Headings.{HeadingParts}

-- the tags, and how the game ended
abbrev pub heading_of : Game → HeadingParts
heading_of game = record { tags = game.tags; outcome = game.outcome }

-- the game is there, or none is
abbrev pub LoadsFrom : List ℕ → TreeParts → HeadingParts → (code used used' : ℕ) → TreeParts → HeadingParts → Type 0
LoadsFrom text board heading code used used' board' heading' =
    ((code ≡ ok) × (game : Game) × BeginsWithGame text game used' × (board' ≡ from_root game.tree) × (heading' ≡ heading_of game))
    ⊎ ((board' ≡ board) × (heading' ≡ heading) × IsNone text code used used')

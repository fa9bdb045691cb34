-- What holds of paths, and of games that are written one after the other.
--   PathsAreReadBack  a path that is written is read as that path
--   CanBeRead         a game whose text isn't too long to be read, nor its variations too deep
--   WrittenAreRead    such games are read again, in their order, and only whitespace is left
--   ReadAreGames      what is read one after the other are games, and their variations not too deep
use Rattle.std.specs.Prelude.{◌≡◌, ℕ, ◌<◌, ◌≤◌, false, List, length, Some}
use Rattle.std.specs.List.{AllByRecursion}
use Rattle.chess_tree.specs.Forest.{most_moves}
use Rattle.chess_pgn.specs.Games.{Game}
use Rattle.chess_pgn.specs.Laws.{IsGame, nesting}
use Rattle.chess_pgn.specs.Reading.{IsWhite}
use Rattle.chess_pgn.specs.Written.{game_text}
use Rattle.chess_cli.specs.Collections.{AreGames, games_text}
use Rattle.chess_cli.specs.Numbers.{path_in, path_text}

-- a path that is written is read as that path
abbrev pub PathsAreReadBack : Type 0
PathsAreReadBack = (path : List ℕ) → AllByRecursion (λ place. place < most_moves) path → path_in (path_text path) ≡ Some path

-- a game with at most 128 variations within one another
abbrev pub IsShallow : Game → Type 0
IsShallow game = IsGame game × (nesting false game.tree.below ≤ 128)

-- a game that is no larger than what the reader takes
abbrev pub CanBeRead : Game → Type 0
CanBeRead game = IsShallow game × (length (game_text game) ≤ 1048576)

-- games that are written are read again as the same games
abbrev pub WrittenAreRead : Type 0
WrittenAreRead = (games : List Game) → AllByRecursion CanBeRead games → (rest : List ℕ) × IsWhite rest × AreGames (games_text games) games rest

-- games that were read are games that can be written
abbrev pub ReadAreGames : Type 0
ReadAreGames = (input : List ℕ) (games : List Game) (rest : List ℕ) → AreGames input games rest → AllByRecursion IsShallow games

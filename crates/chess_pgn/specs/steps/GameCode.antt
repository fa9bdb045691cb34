-- Games and tags as the code keeps them.
use Rattle.chess_pgn.specs.Games as games
use Rattle.chess_pgn.specs.declared.game.Game.{Game}
use Rattle.chess_pgn.specs.declared.tags.Tags.{Tags}

-- the tags of a game in memory
abbrev pub tags_of : {A : Type 0} → Tags A → games.Tags
tags_of tags = record { event = tags.event.items; site = tags.site.items; date = tags.date.items; round = tags.round.items; white = tags.white.items; black = tags.black.items; others = tags.others }

-- the game of a game in memory
abbrev pub game_of : {A : Type 0} → Game A → games.Game
game_of game = record { tags = tags_of game.tags; outcome = game.result; tree = game.tree.tree }

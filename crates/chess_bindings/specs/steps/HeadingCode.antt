-- Tags as the code keeps them.
use Rattle.std.specs.Prelude.{Option, Some, None}
use Rattle.chess_pgn.specs.Games as games
use Rattle.chess_pgn.specs.declared.tags.Tags.{Tags}
use Rattle.chess_pgn.specs.steps.GameCode.{tags_of}

-- the tags in memory; nothing is known where there are none
abbrev pub tags_or_unknown : {A : Type 0} → Option (Tags A) → games.Tags
tags_or_unknown (Some tags) = tags_of tags
tags_or_unknown None = games.unknown

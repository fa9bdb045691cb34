-- The legal moves of a position with their texts.
--   moves_of, texts_of   the moves, and their texts
use Rattle.std.specs.Prelude.{ℕ, List, map}
use Rattle.chess_types.specs.board.MoveParts.{MoveParts}
use Rattle.chess_queries.specs.declared.texts.MoveText.{MoveText}

-- the moves alone
abbrev pub moves_of : List MoveText → List MoveParts
moves_of texts = map (λ text. text.played) texts

-- the texts alone
abbrev pub texts_of : List MoveText → List (List ℕ)
texts_of texts = map (λ text. text.san.bytes) texts

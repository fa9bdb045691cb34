-- The lines that a session replies, without their line feeds.
--   reply_text   the line of a reply
use Rattle.std.specs.Prelude.{ℕ, List, ◌++◌, Option, Some, None, codes, decimal}
use Rattle.chess_types.specs.board.MoveParts.{MoveParts}
use Rattle.chess_types.specs.board.Texts.{move_text}
use Rattle.chess_search.specs.Scores.{score_text}
use Rattle.chess_uci.specs.declared.reply.Reply.{Reply}
use Rattle.chess_uci.specs.declared.reply.Reply.TheVariants.{Name, Author, ClaimsOption, UciOk, ReadyOk, Refused, OutOfMemory, Busy, Info, BestMove}

-- a move in long algebraic notation; `0000` stands for none
abbrev pub move_or_zeros : Option MoveParts → List ℕ
move_or_zeros None = codes "0000"
move_or_zeros (Some m) = move_text m

-- the text of a reply, without its line feed
unfoldable pub reply_text : Reply → List ℕ
reply_text Name = codes "id name chess_uci 1"
reply_text Author = codes "id author chess_uci project"
reply_text ClaimsOption = codes "option name Claims type check default false"
reply_text UciOk = codes "uciok"
reply_text ReadyOk = codes "readyok"
reply_text Refused = codes "info string position refused"
reply_text OutOfMemory = codes "info string out of memory"
reply_text Busy = codes "info string busy"
reply_text (Info depth best value) = codes "info depth " ++ decimal depth ++ codes " score " ++ score_text value ++ codes " pv " ++ move_text best
reply_text (BestMove best) = codes "bestmove " ++ move_or_zeros best

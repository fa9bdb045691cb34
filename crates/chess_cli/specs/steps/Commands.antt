-- What a command of the code asks for.
--   request_of    the request that the code passes
--   later_alone   a command of one word, of those whose words come later in `alone_named`
use Rattle.std.specs.Prelude.{ℕ, if◌then◌else◌, List, Option, Some, None, codes}
use Rattle.std.specs.Str.{bytes_eq}
use Rattle.chess_cli.specs.declared.board_command.command.Command.{Command}
use Rattle.chess_cli.specs.declared.board_command.command.Command.TheVariants.{Blank, New, Set, Counts, Eval, Fen, Moves, Checks, Play, Back, Step, Start, End, Goto, Path, Promote, Delete, Comment, Nag, Count, Status, Claims, Claim, Best, Pgn, Unknown, Malformed}
use Rattle.chess_cli.specs.Requests as asks
use Rattle.chess_cli.specs.Numbers.{depth_in, path_in}

-- the request that the code passes
abbrev pub request_of : Command → asks.Request
request_of Blank = asks.Blank
request_of New = asks.New
request_of (Set fen) = asks.Set fen.now
request_of (Counts colour) = asks.Counts colour
request_of Eval = asks.Eval
request_of Fen = asks.Fen
request_of Moves = asks.Moves
request_of Checks = asks.Checks
request_of (Play word) = asks.Play word.now
request_of Back = asks.Back
request_of (Step place) = asks.Step place
request_of Start = asks.Start
request_of End = asks.End
request_of (Goto word) = asks.written_by asks.Goto (path_in word.now)
request_of Path = asks.Path
request_of Promote = asks.Promote
request_of Delete = asks.Delete
request_of (Comment text) = asks.Comment text.now
request_of (Nag nag) = asks.Nag nag
request_of Count = asks.Count
request_of Status = asks.Status
request_of Claims = asks.Claims
request_of (Claim word) = asks.Claim word.now
request_of (Best word) = asks.written_by asks.Best (depth_in word.now)
request_of Pgn = asks.Pgn
request_of Unknown = asks.Unknown
request_of Malformed = asks.Malformed

-- the later words of the commands of one word
abbrev pub later_alone : List ℕ → Option asks.Request
later_alone word =
    if bytes_eq word (codes "end") then Some asks.End
    else if bytes_eq word (codes "path") then Some asks.Path
    else if bytes_eq word (codes "promote") then Some asks.Promote
    else if bytes_eq word (codes "delete") then Some asks.Delete
    else if bytes_eq word (codes "count") then Some asks.Count
    else if bytes_eq word (codes "status") then Some asks.Status
    else if bytes_eq word (codes "claims") then Some asks.Claims
    else if bytes_eq word (codes "pgn") then Some asks.Pgn
    else None

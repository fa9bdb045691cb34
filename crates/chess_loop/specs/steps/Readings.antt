-- How a line was read: it is kept whole, or it is not.
--   IsUnread   the line is over the limit, or has no more bytes than that, but more than there is always room for
--   ReadAs     the bytes of the line, or why they are not kept
use Rattle.std.specs.Prelude.{◌≡◌, ℕ, ◌<◌, ◌≤◌, List, length, Result, Ok, Err}
use Rattle.std.specs.Borrow.{Bor}
use Rattle.chess_loop.specs.InputLines.{line_limit, line_room}
use Rattle.chess_loop.specs.declared.line_buffer.Unread.{Unread}
use Rattle.chess_loop.specs.declared.line_buffer.Unread.TheVariants.{TooLong, NoMemory}

-- too long, or without memory to keep it
abbrev pub IsUnread : List ℕ → Unread → Type 0
IsUnread bytes TooLong = line_limit < length bytes
IsUnread bytes NoMemory = (line_room < length bytes) × (length bytes ≤ line_limit)

-- the whole line, or why it is not kept
abbrev pub ReadAs : List ℕ → Result (Bor (List ℕ)) Unread → Type 0
ReadAs bytes (Ok line) = line.now ≡ bytes
ReadAs bytes (Err unread) = IsUnread bytes unread

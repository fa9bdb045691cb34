-- The lines of some bytes: each ends with a line feed (byte 10), which the last may lack.
--   ended_lines   the lines that end in the bytes
--   line_buffer   what comes after the last line feed
--   lines_of      all lines: what comes after the last line feed is one too, unless it is nothing
--   line_limit    the most bytes of a line that is taken; line_room, of one that is kept whatever memory there is
use Rattle.std.specs.Prelude.{ℕ, ◌==◌, if◌then◌else◌, List, [], ◌∷◌, ◌++◌}

-- the most bytes of a line, without its line feed
abbrev pub line_limit : ℕ
line_limit = 1048576

-- a line of no more bytes is kept while it is read, whatever memory there is
abbrev pub line_room : ℕ
line_room = 65536

-- the lines that end in the bytes, where `begun` comes before them
abbrev pub ended_lines : List ℕ → List ℕ → List (List ℕ)
ended_lines begun [] = []
ended_lines begun (b ∷ bs) = if b == 10 then begun ∷ ended_lines [] bs else ended_lines (begun ++ b ∷ []) bs

-- the bytes after the last line feed
abbrev pub line_buffer : List ℕ → List ℕ → List ℕ
line_buffer begun [] = begun
line_buffer begun (b ∷ bs) = if b == 10 then line_buffer [] bs else line_buffer (begun ++ b ∷ []) bs

-- a last line without a line feed, if it has a byte
abbrev pub last_line : List ℕ → List (List ℕ)
last_line [] = []
last_line (b ∷ bs) = (b ∷ bs) ∷ []

-- the lines of an input; the last may lack its line feed
abbrev pub lines_of : List ℕ → List (List ℕ)
lines_of bytes = ended_lines [] bytes ++ last_line (line_buffer [] bytes)

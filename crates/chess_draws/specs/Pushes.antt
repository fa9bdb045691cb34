-- What `push` and `pop` do.
--   most_plies                 the most plies of a line
--   push_answer                the answer where there is memory: the first fault that applies, or the move is added
--   AnswersPush                want of memory is answered only where nothing else is wrong and the line has no room left
--   room_answer, AnswersRoom   the same, where the move is known to be legal
--   line_after                 the line afterwards
use Rattle.std.specs.Prelude.{◌≡◌, ◌≤◌, ◌⊎◌, ℕ, nat_le, not, if◌then◌else◌, length, Result, Ok, Err}
use Rattle.chess_types.specs.board.MoveParts.{MoveParts}
use Rattle.chess_types.specs.board.Legal.{is_legal}
use Rattle.chess_types.specs.board.Lines.{Line, last, extended}
use Rattle.chess_draws.specs.declared.fault.LineFault.{LineFault}
use Rattle.chess_draws.specs.declared.fault.LineFault.TheVariants.{Illegal, TooLong, Memory}
use Rattle.chess_draws.specs.LineParts.{LineParts}

-- the most plies of a line
abbrev pub most_plies : ℕ
most_plies = 20000

-- a legal move (3.10) is added to a line of fewer than 20,000 plies
abbrev pub push_answer : Line → MoveParts → Result (Unit {0}) LineFault
push_answer line m = if not (is_legal (last line) m) then Err Illegal else (if nat_le most_plies (length line.moves) then Err TooLong else Ok tt)

-- how a push is answered: by the line and the move, or for want of memory
abbrev pub AnswersPush : LineParts → MoveParts → Result (Unit {0}) LineFault → Type 0
AnswersPush old m result =
    (result ≡ push_answer old.line m) ⊎ ((push_answer old.line m ≡ Ok tt) × (result ≡ Err Memory) × (old.room ≤ length old.line.moves))

-- whether the line may have one move more
abbrev pub room_answer : Line → Result (Unit {0}) LineFault
room_answer line = if nat_le most_plies (length line.moves) then Err TooLong else Ok tt

-- how room for a move is answered
abbrev pub AnswersRoom : LineParts → Result (Unit {0}) LineFault → Type 0
AnswersRoom old result = (result ≡ room_answer old.line) ⊎ ((room_answer old.line ≡ Ok tt) × (result ≡ Err Memory) × (old.room ≤ length old.line.moves))

-- the line after a push that was answered so
abbrev pub line_after : Line → MoveParts → Result (Unit {0}) LineFault → Line
line_after line m (Ok _) = extended line m
line_after line m (Err fault) = line

-- The answer to a line of the input.
use Rattle.std.proofs.Common.{◌≡◌, ◌≢◌, ◌<◌, ◌≤◌, ℕ, List, [], ◌∷◌, ◌++◌, length, leb, true, false, Some, None, refl, arith}
use Rattle.std.proofs.lemmas.Bool.Decides.{nat_tests}
use Rattle.chess_loop.specs.declared.line_buffer.Unread.{Unread}
use Rattle.chess_loop.specs.declared.line_buffer.Unread.TheVariants.{TooLong, NoMemory}
use Rattle.chess_loop.specs.steps.Readings.{IsUnread}
use Rattle.perft.specs.Lines.{ended_by_feed, kept, line_answer}

pub long_kept : (line : List ℕ) → 1024 < length line → line_answer None ≡ line_answer (kept line)
long_kept line long = (let over : leb (length line) 1024 ≡ false = grind (arith, nat_tests, long) in rw over refl)

-- a line that is not kept is longer than that, whatever the reason
pub unread_is_long : (line : List ℕ) (reason : Unread) → IsUnread line reason → line_answer None ≡ line_answer (kept line)
unread_is_long line TooLong long = long_kept line (omega (arith, long))
unread_is_long line NoMemory long = long_kept line (omega (arith, long.0))

pub short_kept : (line : List ℕ) → length line ≤ 1024 → kept line ≡ Some line
short_kept line short = (let within : leb (length line) 1024 ≡ true = grind (arith, nat_tests, short) in rw within refl)

pub fed : (text : List ℕ) → text ≢ [] → text ++ 10 ∷ [] ≡ ended_by_feed text
fed [] some = absurd (some refl)
fed (b ∷ text) some = refl

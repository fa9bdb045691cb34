use Rattle.std.proofs.Common.{ℕ, ◌<◌, ◌≤◌, ◌-◌}
use Rattle.chess_polyglot.specs.Books.{IsBook, entries_in, key_at}
use Rattle.chess_polyglot.proofs.books.first_of.Given as goal

abbrev pub invariant-loop-low : goal.invariant-loop-low
invariant-loop-low l =
    (l.low ≤ l.high) × (l.high ≤ entries_in l.book)
    × (IsBook l.book → (i : ℕ) → i < l.low → key_at l.book i < l.key)
    × (IsBook l.book → (i : ℕ) → l.high ≤ i → i < entries_in l.book → l.key ≤ key_at l.book i)

abbrev pub decreases-loop-low : goal.decreases-loop-low
decreases-loop-low l = l.high - l.low

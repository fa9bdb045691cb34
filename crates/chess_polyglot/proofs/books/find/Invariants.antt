use Rattle.std.proofs.Common.{◌≡◌, ℕ, ◌<◌, ◌≤◌, ◌+◌, ◌-◌}
use Rattle.chess_polyglot.specs.Books.{entries_in, key_at}
use Rattle.chess_polyglot.proofs.books.find.Given as goal

abbrev pub invariant-loop-count : goal.invariant-loop-count
invariant-loop-count l =
    (l.first + l.count ≤ entries_in l.book) × ((i : ℕ) → l.first ≤ i → i < l.first + l.count → key_at l.book i ≡ l.key)

abbrev pub decreases-loop-count : goal.decreases-loop-count
decreases-loop-count l = entries_in l.book - (l.first + l.count)

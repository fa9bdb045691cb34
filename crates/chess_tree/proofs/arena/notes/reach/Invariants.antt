use Rattle.std.proofs.Common.{◌≡◌, ℕ, ◌-◌, ◌≤◌, suc, length}
use Rattle.chess_tree.specs.steps.Notes.{noted_in}
use Rattle.chess_tree.proofs.arena.notes.reach.Given as goal

-- only empty notes were added
abbrev pub invariant-loop-number : goal.invariant-loop-number
invariant-loop-number g l = record {
  same : (j : ℕ) → noted_in l.notes.items j ≡ noted_in l.fn.notes.items j;
  longer : length l.fn.notes.items ≤ length l.notes.items;
}

abbrev pub decreases-loop-number : goal.decreases-loop-number
decreases-loop-number g l = suc l.number - length l.notes.items

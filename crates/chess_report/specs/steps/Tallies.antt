-- What is kept while the plies of a line are gone over.
--   over_or   the end that was found, else this ply where the game is over
--   IsTally   all that a tally says of the plies below a number
use Rattle.std.specs.Prelude.{◌≡◌, ℕ, if◌then◌else◌, not, Option, Some, None, IfSome, option_map}
use Rattle.chess_types.specs.declared.board.outcome.Status.{Status}
use Rattle.chess_types.specs.board.Lines.{Line, last}
use Rattle.chess_types.specs.board.Repetition as laws
use Rattle.chess_types.specs.board.Outcome.{status, claims, is_play}
use Rattle.chess_report.specs.declared.report.Over.{Over}
use Rattle.chess_report.specs.declared.tally.Tally.{Tally}
use Rattle.chess_report.specs.MainLine.{as_far, greatest_below, least}
use Rattle.chess_report.specs.Findings.{is_over}

-- where the game was over first, so far
abbrev pub over_or : Option Over → Status → ℕ → Option Over
over_or (Some over) why ply = Some over
over_or None why ply = if not (is_play why) then Some (record { ply = ply; why = why }) else None

-- what has been counted of the first plies
pub record IsTally (line : Line) (n : ℕ) (t : Tally) : Type 0 where
  pub over : option_map (λ (o : Over). o.ply) t.over ≡ least (λ k. is_over (as_far k line)) n
  pub why : IfSome t.over (λ o. o.why ≡ status (as_far o.ply line))
  pub threefold : t.threefold ≡ least (λ k. (claims (as_far k line)).threefold) n
  pub fifty : t.fifty ≡ least (λ k. (claims (as_far k line)).fifty) n
  pub repetitions : t.repetitions ≡ greatest_below (λ k. laws.repetitions (as_far k line)) n
  pub quiet : t.quiet ≡ greatest_below (λ k. (last (as_far k line)).clock) n

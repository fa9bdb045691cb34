-- A tally, ply by ply.
use Rattle.std.proofs.Common.{◌≡◌, ℕ, suc, max, Bool, true, false, not, if◌then◌else◌, length, Option, Some, None, refl, sym, ap, subst, ◌∙◌}
use Rattle.std.specs.Prelude.{IfSome, option_map}
use Rattle.chess_types.specs.declared.board.outcome.Status.{Status}
use Rattle.chess_types.specs.board.Lines.{Line, last}
use Rattle.chess_types.specs.board.Repetition.{repetitions}
use Rattle.chess_types.specs.board.Outcome.{status, claims, is_play}
use Rattle.chess_report.specs.declared.report.Over.{Over}
use Rattle.chess_report.specs.declared.tally.Tally.{Tally}
use Rattle.chess_report.specs.MainLine.{as_far, else_here, greatest_below, least}
use Rattle.chess_report.specs.Findings.{is_over}
use Rattle.chess_report.specs.steps.Tallies.{IsTally, over_or}

-- what is added of a ply
pub record Adds (line : Line) (old new : Tally) : Type 0 where
  pub over : new.over ≡ over_or old.over (status line) (length line.moves)
  pub threefold : new.threefold ≡ else_here old.threefold (claims line).threefold (length line.moves)
  pub fifty : new.fifty ≡ else_here old.fifty (claims line).fifty (length line.moves)
  pub repetitions : new.repetitions ≡ max old.repetitions (repetitions line)
  pub quiet : new.quiet ≡ max old.quiet (last line).clock

over_ply : (o : Option Over) (why : Status) (n : ℕ) → option_map (λ (x : Over). x.ply) (over_or o why n) ≡ else_here (option_map (λ (x : Over). x.ply) o) (not (is_play why)) n
over_ply (Some o) why n = refl
over_ply None why n = by (is_play why)
  where
    by : (b : Bool) → option_map (λ (x : Over). x.ply) (if not b then Some (record { ply = n; why = why }) else None) ≡ else_here None (not b) n
    by true = refl
    by false = refl

over_why : (whole : Line) (o : Option Over) (why : Status) (n : ℕ) → why ≡ status (as_far n whole) → IfSome o (λ x. x.why ≡ status (as_far x.ply whole)) → IfSome (over_or o why n) (λ x. x.why ≡ status (as_far x.ply whole))
over_why whole (Some o) why n e i = i
over_why whole None why n e i = by (is_play why)
  where
    by : (b : Bool) → IfSome (if not b then Some (record { ply = n; why = why }) else None) (λ (x : Over). x.why ≡ status (as_far x.ply whole))
    by true = tt
    by false = e

-- the next ply
pub tally_on : (whole line : Line) (old new : Tally) → as_far (length line.moves) whole ≡ line → IsTally whole (length line.moves) old → Adds line old new → IsTally whole (suc (length line.moves)) new
tally_on whole line old new far t a =
    let n = length line.moves in
    record {
      over = ap (option_map (λ (x : Over). x.ply)) a.over ∙ over_ply old.over (status line) n ∙ ap (λ (o : Option ℕ). else_here o (not (is_play (status line))) n) t.over
          ∙ ap (λ (l : Line). else_here (least (λ k. is_over (as_far k whole)) n) (is_over l) n) (sym far);
      why = subst (λ (o : Option Over). IfSome o (λ x. x.why ≡ status (as_far x.ply whole))) (sym a.over) (over_why whole old.over (status line) n (ap status (sym far)) t.why);
      threefold = a.threefold ∙ ap (λ (o : Option ℕ). else_here o (claims line).threefold n) t.threefold
          ∙ ap (λ (l : Line). else_here (least (λ k. (claims (as_far k whole)).threefold) n) (claims l).threefold n) (sym far);
      fifty = a.fifty ∙ ap (λ (o : Option ℕ). else_here o (claims line).fifty n) t.fifty
          ∙ ap (λ (l : Line). else_here (least (λ k. (claims (as_far k whole)).fifty) n) (claims l).fifty n) (sym far);
      repetitions = a.repetitions ∙ ap (λ (x : ℕ). max x (repetitions line)) t.repetitions
          ∙ ap (λ (l : Line). max (greatest_below (λ k. repetitions (as_far k whole)) n) (repetitions l)) (sym far);
      quiet = a.quiet ∙ ap (λ (x : ℕ). max x (last line).clock) t.quiet
          ∙ ap (λ (l : Line). max (greatest_below (λ k. (last (as_far k whole)).clock) n) (last l).clock) (sym far);
    }

-- no ply
pub record IsNew (t : Tally) : Type 0 where
  pub over : t.over ≡ None
  pub threefold : t.threefold ≡ None
  pub fifty : t.fifty ≡ None
  pub repetitions : t.repetitions ≡ 0
  pub quiet : t.quiet ≡ 0

pub tally_none : (whole : Line) (t : Tally) → IsNew t → IsTally whole 0 t
tally_none whole t new = record {
  over = ap (option_map (λ (x : Over). x.ply)) new.over;
  why = subst (λ (o : Option Over). IfSome o (λ x. x.why ≡ status (as_far x.ply whole))) (sym new.over) tt;
  threefold = new.threefold;
  fifty = new.fifty;
  repetitions = new.repetitions;
  quiet = new.quiet;
}

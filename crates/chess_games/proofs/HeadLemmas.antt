-- What stands before all games.
use Rattle.std.proofs.Common.{◌≡◌, ◌⊎◌, inr, Bool, List, ℕ, Result, Ok, Err}
use Rattle.std.specs.Prelude.{IfErr, IfOk}
use Rattle.byte_streams.specs.Calls.{Carries}
use Rattle.chess_games.specs.declared.form.Form.{Form}
use Rattle.chess_games.specs.Forms.{IsHeaded, head_in}

module _ {W X E : Type 0} (takes : W → List ℕ → W → Type 0) (write_failed : W → Bool) (form : Form) (old mid : W) (written : Carries takes old (head_in form) mid) (well : write_failed mid ≡ write_failed old) where
  pub headed : (P : X → W → Type 0) (result : Result X E) → IfOk result (λ x. P x mid) → IfOk result (λ x. IsHeaded takes write_failed form old (λ w. P x w))
  headed P (Ok x) h = record { mid = mid; writes = written; well_written = well; goes_on = h }
  headed P (Err e) h = h

  -- it ends early after it
  pub headed_short : (A : E → Type 0) (P : E → W → Type 0) (result : Result X E) → IfErr result (λ e. P e mid) → IfErr result (λ e. A e ⊎ IsHeaded takes write_failed form old (λ w. P e w))
  headed_short A P (Ok x) h = h
  headed_short A P (Err e) h = inr (record { mid = mid; writes = written; well_written = well; goes_on = h })

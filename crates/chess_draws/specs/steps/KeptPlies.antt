-- What a line keeps of a move.
--   PlyParts                          the record by which the move is taken back, and the target before it, where it counted
--   passed_target, passed_counting    the target by what is kept of it, and the target where it counts
--   passed_of                         what is kept of a target
use Rattle.std.specs.Prelude.{◌≡◌, ℕ, Bool, true, false, Option, Some, None, is_some, refl}
use Rattle.chess_play.specs.Records.{RecordParts}
use Rattle.chess_draws.specs.declared.ply.Passed.{Passed}
use Rattle.chess_draws.specs.declared.ply.Passed.TheVariants.{Nothing, Idle, Counting}

pub record PlyParts : Type 0 where
  pub target : Option ℕ
  pub past : RecordParts

abbrev pub passed_target : Passed → Option ℕ
passed_target Nothing = None
passed_target (Idle at) = Some at
passed_target (Counting at) = Some at

abbrev pub passed_counting : Passed → Option ℕ
passed_counting Nothing = None
passed_counting (Idle at) = None
passed_counting (Counting at) = Some at

-- whether a target counts, and on which square
abbrev pub passed_on : Bool → ℕ → Passed
passed_on true at = Counting at
passed_on false at = Idle at

abbrev pub passed_of : Bool → Option ℕ → Passed
passed_of counts None = Nothing
passed_of counts (Some at) = passed_on counts at

-- what is kept of a target is that of the target
abbrev pub passed_of-kept : (k : Passed) → passed_of (is_some (passed_counting k)) (passed_target k) ≡ k
passed_of-kept Nothing = refl
passed_of-kept (Idle at) = refl
passed_of-kept (Counting at) = refl

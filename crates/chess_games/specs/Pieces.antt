-- A collection cut into pieces, with a zero byte between two of them.
--   IsMarked  some bytes with zero bytes put in, each before bytes that open a tag
--   IsCut     a source gave bytes to its end, and a sink took those with zero bytes put in, and nothing else; no call failed
--   IsStopped  a piece has a zero byte, and nothing of it is written; or a write failed or took no byte, and was the last, after a prefix of the piece
--              with zero bytes put in
--   Stops     after these pieces there was no memory, before the first and any write; or a read failed, and was the last, or there were 2^40; or the
--             next piece is read, and not written whole
--   IsCutInPart  pieces of some bytes were read, and written with zero bytes put in, and then it stops; nothing else is written
use Rattle.std.specs.Prelude.{◌≡◌, ◌⊎◌, ◌<◌, ◌==◌, ℕ, Bool, true, List, [], ◌∷◌, length}
use Rattle.std.specs.List.{AllByRecursion, list_any}
use Rattle.byte_streams.specs.Calls.{Calls, Carries, joined}
use Rattle.chess_items.specs.Sections.{OpensTag}
use Rattle.chess_loop.specs.RunEnds.{Broken, most_reads}
use Rattle.chess_command_line.specs.declared.collection.Failure.TheVariants as by
use Rattle.chess_games.specs.declared.cut.CutFault.{CutFault}
use Rattle.chess_games.specs.declared.cut.CutFault.TheVariants.{Failure, Zero}

-- a text with zero bytes put in
abbrev pub IsMarked : List ℕ → List ℕ → Type 0
IsMarked text [] = text ≡ []
IsMarked text (b ∷ marked) =
    ((b ≡ 0) × OpensTag text × IsMarked text marked) ⊎ ((rest : List ℕ) × (text ≡ b ∷ rest) × IsMarked rest marked)

pub record IsCut {R W : Type 0} (gives : R → List ℕ → R → Type 0) (read_failed : R → Bool) (ended : R → Type 0) (takes : W → List ℕ → W → Type 0) (failed : W → Bool) (source : R) (old new : W) : Type 0 where
  pub text : List ℕ
  pub left : R
  pub came : Carries gives source text left
  pub well_read : read_failed left ≡ read_failed source
  pub all : ended left
  pub marked : List ℕ
  pub went : Carries takes old marked new
  pub well_written : failed new ≡ failed old
  pub same : IsMarked text marked

abbrev pub IsStopped : {W : Type 0} → (W → List ℕ → W → Type 0) → (W → Bool) → List ℕ → W → W → CutFault → Type 0
IsStopped takes failed piece old new Zero = (list_any (λ b. b == 0) piece ≡ true) × (new ≡ old)
IsStopped takes failed piece old new (Failure by.Read) = ⊥
IsStopped takes failed piece old new (Failure by.Write) = (marked : List ℕ) × IsMarked piece marked × Broken takes failed old marked new
IsStopped takes failed piece old new (Failure by.Memory) = ⊥

module _ {R W : Type 0} (gives : R → List ℕ → R → Type 0) (read_failed : R → Bool) (takes : W → List ℕ → W → Type 0) (failed : W → Bool) where
  abbrev pub Stops : List (List ℕ) → R → W → W → CutFault → Type 0
  Stops pieces there mid new (Failure by.Memory) = (pieces ≡ []) × (new ≡ mid)
  Stops pieces there mid new (Failure by.Read) =
      (((left : R) × gives there [] left × (read_failed left ≡ true)) ⊎ (length pieces ≡ most_reads)) × (new ≡ mid)
  Stops pieces there mid new fault =
      (piece : List ℕ) × (left : R) × gives there piece left × (read_failed left ≡ read_failed there) × IsStopped takes failed piece mid new fault

  pub record IsCutInPart (source : R) (old new : W) (fault : CutFault) : Type 0 where
    pub pieces : List (List ℕ)
    pub there : R
    pub calls : Calls gives source pieces there
    pub well_read : read_failed there ≡ read_failed source
    pub each : AllByRecursion (λ piece. 0 < length piece) pieces
    pub marked : List ℕ
    pub mid : W
    pub went : Carries takes old marked mid
    pub well_written : failed mid ≡ failed old
    pub same : IsMarked (joined pieces) marked
    pub stops : Stops pieces there mid new fault

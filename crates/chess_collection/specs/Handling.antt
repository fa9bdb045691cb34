-- What a handler of games makes of a collection.
--   Stretch      some bytes of a collection: those of a game, or others; whether a game is read of them; and what is written of them
--   bad_of       it is a game that can't be read, and counts; passed_of, how many of its bytes are passed over
--   IsEarly      a good game ends before the last byte of a text, so that more bytes change nothing of it
--   Tiles        stretches of some bytes, one after another, without a gap, each handled by its number and the number of bytes before it, as the bytes that are
--                looked at where it begins say; and the bytes after them
--   TilesLast    stretches of the last bytes that came, one after another; the handler gets these bytes as if the source had ended, and each stretch ends before
--                the last byte
--   IsOpenEnd    the bytes after such stretches are white, or one stretch of all of them, which more bytes might have made longer
--   written_of   what is written of stretches
--   bad_in       how many games can't be read, and count; passed_in, how many bytes are passed over
--   Reaches      bytes came from a source that may be read `reads` times, and stretches of them go up to the bytes at hand, whichever bytes come next; few bytes
--                are at hand
--   ReachesOn    stretches are reached; if a read failed then, or there may be no more, they go on into the bytes at hand (`TilesLast`)
--   HasTotals    how many stretches there are, and bytes of them and after them, and bytes that are passed over; and how many games can't be read, and count
--   IsCutShort   a read failed, or there may be no more, and the stretches have all bytes that came but an open end (`IsOpenEnd`)
--   IsSentWhole  a text is carried to a sink, whole and no more, and no call failed
--   GoesOver     the end of a run over a collection: the source has ended, and only bytes that the handler calls white come after the stretches; or the run is cut
--                short, and the texts of all stretches are written; or there was no memory, and the texts of the stretches before are written, or, if there was no
--                memory at the start, nothing; or a write failed, and a prefix of the texts is written
use Rattle.std.specs.Prelude.{◌≡◌, ◌⊎◌, ◌<◌, ℕ, ◌+◌, suc, Bool, true, List, [], ◌∷◌, ◌++◌, length, Result, Ok, Err}
use Rattle.byte_streams.specs.Calls.{Carries}
use Rattle.chess_loop.specs.RunEnds.{Broken}
use Rattle.chess_command_line.specs.declared.collection.Failure.{Failure}
use Rattle.chess_command_line.specs.declared.collection.Failure.TheVariants as by
use Rattle.chess_collection.specs.declared.going.Totals.{Totals}
use Rattle.chess_collection.specs.declared.handler.Fate.{Fate}
use Rattle.chess_collection.specs.declared.handler.Fate.TheVariants.{Read, Saved, Lost}
use Rattle.chess_collection.specs.Windows.{AreFew, ReadEnds, IsLookedAt, Loses, Window}

pub record Stretch : Type 0 where
  pub bytes : List ℕ
  pub fate : Fate
  pub text : List ℕ

-- the number of a stretch, the number of bytes before it, the bytes that are looked at, how many of them are its own, whether a game is read of them, and what
-- is written of it
abbrev pub Handles : Type 1
Handles = ℕ → ℕ → List ℕ → ℕ → Fate → List ℕ → Type 0

abbrev pub IsEarly : List ℕ → ℕ → Fate → Type 0
IsEarly window used fate = (fate ≡ Read) × (used < length window)

-- of a whole text
abbrev pub Tiles : Handles → (List ℕ → Type 0) → List ℕ → ℕ → ℕ → List ℕ → List Stretch → List ℕ → Type 0
Tiles handles white whole number offset left [] rest = left ≡ rest
Tiles handles white whole number offset left (s ∷ ss) rest =
    (window after : List ℕ) × IsLookedAt white whole window left (IsEarly window (length s.bytes) s.fate) × handles number offset window (length s.bytes) s.fate s.text × (left ≡ s.bytes ++ after)
    × Tiles handles white whole (suc number) (offset + length s.bytes) after ss rest

abbrev pub TilesLast : Handles → ℕ → ℕ → List ℕ → List Stretch → List ℕ → Type 0
TilesLast handles number offset left [] rest = left ≡ rest
TilesLast handles number offset left (s ∷ ss) rest =
    handles number offset left (length s.bytes) s.fate s.text × (after : List ℕ) × (left ≡ s.bytes ++ after) × (0 < length after) × TilesLast handles (suc number) (offset + length s.bytes) after ss rest

abbrev pub IsOpenEnd : Handles → (List ℕ → Type 0) → ℕ → ℕ → List ℕ → Type 0
IsOpenEnd handles white number offset rest = white rest ⊎ ((fate : Fate) × (text : List ℕ) × handles number offset rest (length rest) fate text)

abbrev pub written_of : List Stretch → List ℕ
written_of [] = []
written_of (s ∷ ss) = s.text ++ written_of ss

abbrev pub bad_of : Fate → ℕ
bad_of Lost = 1
bad_of _ = 0

-- how many of `used` bytes are passed over
abbrev pub passed_of : Fate → ℕ → ℕ
passed_of Read used = 0
passed_of Saved used = 0
passed_of _ used = used

abbrev pub bad_in : List Stretch → ℕ
bad_in [] = 0
bad_in (s ∷ ss) = bad_of s.fate + bad_in ss

-- how many bytes are passed over in all
abbrev pub passed_in : List Stretch → ℕ
passed_in [] = 0
passed_in (s ∷ ss) = passed_of s.fate (length s.bytes) + passed_in ss

-- 2^57
abbrev pub most_handled : ℕ
most_handled = 144115188075855872

pub record HasTotals (ss : List Stretch) (rest text : List ℕ) (totals : Totals) : Type 0 where
  pub games : totals.games ≡ length ss
  pub bytes : totals.bytes ≡ length text
  pub passed : totals.passed ≡ passed_in ss
  pub bad : totals.bad ≡ bad_in ss

abbrev pub IsSentWhole : {W : Type 0} → (W → List ℕ → W → Type 0) → (W → Bool) → W → List ℕ → W → Type 0
IsSentWhole takes failed old text new = Carries takes old text new × (failed new ≡ failed old)

module _ {R : Type 0} (gives : R → List ℕ → R → Type 0) (failed : R → Bool) (handles : Handles) (white : List ℕ → Type 0) (ended : R → Type 0) (reads : ℕ) where
  pub record Reaches (source : R) (ss : List Stretch) (text : List ℕ) (now : Window R) : Type 0 where
    pub came : Carries gives source text now.source
    pub well_read : failed now.source ≡ failed source
    pub counted : now.reads + length came.pieces ≡ reads
    pub sound : now.has_ended ≡ true → ended now.source
    pub few : AreFew white text now.bytes
    pub tiles : (more : List ℕ) → (now.has_ended ≡ true → more ≡ []) → Tiles handles white (text ++ more) 1 0 (text ++ more) ss (now.bytes ++ more)

  -- the first stretches, up to the bytes at hand at the last read, and the stretches of these bytes
  pub record ReachesOn (source : R) (ss : List Stretch) (rest : List ℕ) (new : R) : Type 0 where
    pub first : List Stretch
    pub text : List ℕ
    pub last : Window R
    pub reaches : Reaches source first text last
    pub late : List Stretch
    pub all : ss ≡ first ++ late
    pub offset : ℕ
    pub placed : offset + length last.bytes ≡ length text
    pub tiles : TilesLast handles (suc (length first)) offset last.bytes late rest
    pub stops : ((late ≡ []) × Loses gives failed last.source new) ⊎ ReadEnds gives failed last new

  pub record IsCutShort (ss : List Stretch) (rest text : List ℕ) (last : Window R) (new : R) : Type 0 where
    pub fails : ReadEnds gives failed last new
    pub offset : ℕ
    pub placed : offset + length rest ≡ length text
    pub left : IsOpenEnd handles white (suc (length ss)) offset rest

  module _ {W : Type 0} (takes : W → List ℕ → W → Type 0) (write_failed : W → Bool) (head : List ℕ) where
    -- to the source's end
    pub record GoesOverAll (source : R) (new : Window R) (old w : W) (totals : Totals) : Type 0 where
      pub ss : List Stretch
      pub text : List ℕ
      pub reaches : Reaches source ss text new
      pub writes : IsSentWhole takes write_failed old (head ++ written_of ss) w
      pub ends : (new.has_ended ≡ true) × ended new.source
      pub rest : white new.bytes
      pub totals_are : HasTotals ss new.bytes text totals

    abbrev pub GoesOver : R → Window R → W → W → Result Totals Failure → Type 0
    GoesOver source new old w (Ok totals) = GoesOverAll source new old w totals
    GoesOver source new old w (Err by.Read) =
        (ss : List Stretch) × (rest : List ℕ) × (some : ReachesOn source ss rest new.source) × IsSentWhole takes write_failed old (head ++ written_of ss) w
        × (IsCutShort ss rest some.text some.last new.source ⊎ (length ss ≡ most_handled))
    GoesOver source new old w (Err by.Write) =
        (ss : List Stretch) × (rest : List ℕ) × ReachesOn source ss rest new.source × Broken takes write_failed old (head ++ written_of ss) w
    GoesOver source new old w (Err by.Memory) =
        ((ss : List Stretch) × (rest : List ℕ) × ReachesOn source ss rest new.source × IsSentWhole takes write_failed old (head ++ written_of ss) w) ⊎ ((new.source ≡ source) × (w ≡ old))

-- What is read of a collection, and written of it.
--   FilteredEntry  a game that was read, or the fault of one that can't be read
--   Goes        games are read one after another: one that can't be read, not for want of memory, is given up, from its first byte to where its text says that the next begins
--   good_text   what is written of the good games of a part, in order, after `before` games
--   bad_count   how many games of a part can't be read
--   IsFresh     nothing of a source is read
--   IsGoneOver  it is read so to its end, which the source has come to; the good games of the part are written, and nothing else; this many of the part can't be
--               read; no call failed
--   IsFiltered  so it is from its beginning
--   IsUnwritten  a text isn't written whole: a write failed or took no byte, and was the last, after a prefix; or there was no memory, and nothing of it is
--   NoNext      there is no way to the next game: a read failed, or there may be no more, or there was no memory, for the game or, where it can't be
--               read, to give it up; no read was made that wasn't needed
--   Stops       after `count` games there is no way to the next; or it is a good one of the part that isn't written whole; or there were 2^57
--   IsLeftOff   games are read so up to there, and the good games of the part are written, and then it stops; nothing else is written
--   IsFilteredInPart  so it is from the source's beginning
use Rattle.std.specs.Prelude.{◌≡◌, ◌≢◌, ◌⊎◌, ℕ, ◌+◌, Bool, true, false, if◌then◌else◌, List, [], ◌∷◌, ◌++◌, length}
use Rattle.byte_streams.specs.Calls.{Carries}
use Rattle.chess_items.specs.Abandoned.{GoesFurther}
use Rattle.chess_items.specs.Coming.{AtHand, BreaksWhere, CameWhere}
use Rattle.chess_items.specs.declared.fault.FaultKind.TheVariants as lacks
use Rattle.chess_items.specs.declared.fault.PgnFault.{PgnFault}
use Rattle.chess_loop.specs.RunEnds.{Broken}
use Rattle.chess_pgn.specs.Games.{Game}
use Rattle.chess_pgn.specs.Sources.{Fails, HasGame, HasNone, IsGivenUp, ReadFails, Starves}
use Rattle.chess_command_line.specs.declared.collection.Failure.{Failure}
use Rattle.chess_command_line.specs.declared.collection.Failure.TheVariants as by
use Rattle.chess_games.specs.declared.form.Form.{Form}
use Rattle.chess_games.specs.Forms.{text_in}
use Rattle.chess_games.specs.Parts.{Part, is_in}

pub data FilteredEntry : Type 0 where
  Good : Game → FilteredEntry
  Bad : PgnFault → FilteredEntry

module _ {R : Type 0} (gives : R → List ℕ → R → Type 0) (failed : R → Bool) (ended : R → Type 0) where
  abbrev pub Goes : AtHand R → List FilteredEntry → AtHand R → Type 0
  Goes old [] new = old ≡ new
  Goes old (Good game ∷ entries) new = (mid : AtHand R) × HasGame gives failed old mid game × Goes mid entries new
  Goes old (Bad fault ∷ entries) new =
      (there : AtHand R) × (mid : AtHand R) × (fault.kind ≢ lacks.Memory) × Fails gives failed ended old there × IsGivenUp gives failed old mid × Goes mid entries new

abbrev pub good_text : Form → Part → ℕ → List FilteredEntry → List ℕ
good_text form part before [] = []
good_text form part before (Good game ∷ entries) = (if is_in part before then text_in form before game else []) ++ good_text form part (before + 1) entries
good_text form part before (Bad fault ∷ entries) = good_text form part (before + 1) entries

abbrev pub bad_count : Part → ℕ → List FilteredEntry → ℕ
bad_count part before [] = 0
bad_count part before (Good game ∷ entries) = bad_count part (before + 1) entries
bad_count part before (Bad fault ∷ entries) = (if is_in part before then 1 else 0) + bad_count part (before + 1) entries

-- nothing of a source is read, and there may be 2^40 reads
pub record IsFresh {R : Type 0} (source : R) (text : AtHand R) : Type 0 where
  pub is : text.source ≡ source
  pub nothing : text.bytes ≡ []
  pub goes_on : text.has_ended ≡ false
  pub reads : text.reads ≡ 1099511627776
  pub used : text.used ≡ 0

pub record IsGoneOver {R W : Type 0} (gives : R → List ℕ → R → Type 0) (failed : R → Bool) (ended : R → Type 0) (takes : W → List ℕ → W → Type 0) (write_failed : W → Bool) (form : Form) (part : Part) (text : AtHand R) (old new : W) (bad : ℕ) : Type 0 where
  pub entries : List FilteredEntry
  pub there : AtHand R
  pub goes : Goes gives failed ended text entries there
  pub left : AtHand R
  pub none : HasNone gives failed there left
  pub all : ended left.source
  pub writes : Carries takes old (good_text form part 0 entries) new
  pub well_written : write_failed new ≡ write_failed old
  pub counted : bad ≡ bad_count part 0 entries

pub record IsFiltered {R W : Type 0} (gives : R → List ℕ → R → Type 0) (failed : R → Bool) (ended : R → Type 0) (takes : W → List ℕ → W → Type 0) (write_failed : W → Bool) (form : Form) (part : Part) (source : R) (old new : W) (bad : ℕ) : Type 0 where
  pub text : AtHand R
  pub fresh : IsFresh source text
  pub all : IsGoneOver gives failed ended takes write_failed form part text old new bad

-- 2^57
abbrev pub most_games : ℕ
most_games = 144115188075855872

abbrev pub IsUnwritten : {W : Type 0} → (W → List ℕ → W → Type 0) → (W → Bool) → List ℕ → W → W → Failure → Type 0
IsUnwritten takes failed text old new by.Read = ⊥
IsUnwritten takes failed text old new by.Write = Broken takes failed old text new
IsUnwritten takes failed text old new by.Memory = new ≡ old

module _ {R : Type 0} (gives : R → List ℕ → R → Type 0) (failed : R → Bool) (ended : R → Type 0) where
  abbrev pub NoNext : AtHand R → AtHand R → Failure → Type 0
  NoNext there left by.Read =
      ReadFails gives failed there left ⊎ ((mid : AtHand R) × Fails gives failed ended there mid × BreaksWhere GoesFurther gives failed there left)
  NoNext there left by.Write = ⊥
  NoNext there left by.Memory =
      Starves gives failed ended there left ⊎ ((mid : AtHand R) × Fails gives failed ended there mid × CameWhere GoesFurther gives failed there left)

  module _ {W : Type 0} (takes : W → List ℕ → W → Type 0) (write_failed : W → Bool) (form : Form) (part : Part) where
    abbrev pub Stops : ℕ → AtHand R → W → W → Failure → Type 0
    Stops count there mid new failure =
        ((left : AtHand R) × NoNext there left failure × (new ≡ mid))
        ⊎ ((left : AtHand R) × (game : Game) × HasGame gives failed there left game × (is_in part count ≡ true) × IsUnwritten takes write_failed (text_in form count game) mid new failure)
        ⊎ ((count ≡ most_games) × (failure ≡ by.Read) × (new ≡ mid))

    pub record IsLeftOff (text : AtHand R) (old new : W) (failure : Failure) : Type 0 where
      pub entries : List FilteredEntry
      pub there : AtHand R
      pub goes : Goes gives failed ended text entries there
      pub mid : W
      pub writes : Carries takes old (good_text form part 0 entries) mid
      pub well_written : write_failed mid ≡ write_failed old
      pub stops : Stops (length entries) there mid new failure

    pub record IsFilteredInPart (source : R) (old new : W) (failure : Failure) : Type 0 where
      pub text : AtHand R
      pub fresh : IsFresh source text
      pub off : IsLeftOff text old new failure

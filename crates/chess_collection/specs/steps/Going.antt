-- Going over a collection, step by step.
--   BreaksOff  no stretch comes: a read failed, or there may be no more, and all that came is at hand; or there was no memory
--   IsEnough   the bytes at hand are looked at for a stretch: as many as for any, or all, or a good game ends before the last of them
--   IsSent     the texts of stretches are sent after all that was sent before; IsBroken, a write of them failed
--   Finishes   the end of a run over the last bytes that came
--   Fills      the end of a run over a collection: the texts of its stretches are on the page or sent, or a write of them failed
--   has_broken  a write has failed
use Rattle.std.specs.Prelude.{◌≡◌, ◌⊎◌, ◌+◌, ℕ, suc, Bool, true, false, List, ◌++◌, length, Result, Ok, Err}
use Rattle.chess_loop.specs.RunEnds.{Broken}
use Rattle.chess_loop.specs.steps.Sending.{Sent}
use Rattle.chess_command_line.specs.declared.collection.Failure.{Failure}
use Rattle.chess_command_line.specs.declared.collection.Failure.TheVariants as by
use Rattle.chess_collection.specs.declared.going.Totals.{Totals}
use Rattle.chess_collection.specs.declared.handler.Fate.{Fate}
use Rattle.chess_collection.specs.Handling.{Handles, HasTotals, IsEarly, IsCutShort, IsOpenEnd, Reaches, ReachesOn, Stretch, TilesLast, most_handled, written_of}
use Rattle.chess_collection.specs.Windows.{Comes, ReadEnds, IsWide, Loses, StayFew, Window}

module _ {R : Type 0} (gives : R → List ℕ → R → Type 0) (failed : R → Bool) (ended : R → Type 0) (white : List ℕ → Type 0) where
  -- bytes came, and few are at hand
  pub record ComesFew (old last : Window R) : Type 0 where
    pub comes : Comes gives failed old last
    pub sound : last.has_ended ≡ true → ended last.source
    pub few : StayFew white old.bytes last.bytes

  abbrev pub BreaksOff : Window R → Window R → Failure → Type 0
  BreaksOff old new by.Read = (last : Window R) × ComesFew old last × (last.has_ended ≡ false) × (new.bytes ≡ last.bytes) × ReadEnds gives failed last new.source
  BreaksOff old new by.Write = ⊥
  BreaksOff old new by.Memory = (last : Window R) × ComesFew old last × Loses gives failed last.source new.source

abbrev pub IsEnough : {R : Type 0} → Window R → ℕ → Fate → Type 0
IsEnough w used fate = IsWide w ⊎ IsEarly w.bytes used fate

module _ (handles : Handles) {W : Type 0} (takes : W → List ℕ → W → Type 0) (write_failed : W → Bool) where
  -- what is written of stretches is sent
  abbrev pub IsSent : List ℕ → W → List Stretch → List ℕ → W → Type 0
  IsSent page w ss page1 w1 = (start : W) (head : List ℕ) → Sent takes write_failed start head page w → Sent takes write_failed start (head ++ written_of ss) page1 w1

  -- sending it broke off
  abbrev pub IsBroken : List ℕ → W → List Stretch → W → Type 0
  IsBroken page w ss w1 = (start : W) (head : List ℕ) → Sent takes write_failed start head page w → Broken takes write_failed start (head ++ written_of ss) w1

  -- after `before` stretches of `offset` bytes
  module _ (white : List ℕ → Type 0) (before offset : ℕ) (left : List ℕ) where
    -- the bytes that are left, and their place
    pub record IsLast (late : List Stretch) (rest : List ℕ) : Type 0 where
      pub place : ℕ
      pub placed : place + length rest ≡ offset + length left
      pub left_so : IsOpenEnd handles white (suc (before + length late)) place rest

    abbrev pub Finishes : List ℕ → W → List ℕ → W → Failure → Type 0
    Finishes page w page1 w1 by.Read = (late : List Stretch) × (rest : List ℕ) × TilesLast handles (suc before) offset left late rest × IsSent page w late page1 w1 × (IsLast late rest ⊎ (before + length late ≡ most_handled))
    Finishes page w page1 w1 by.Write = (late : List Stretch) × (rest : List ℕ) × TilesLast handles (suc before) offset left late rest × IsBroken page w late w1
    Finishes page w page1 w1 by.Memory = (late : List Stretch) × (rest : List ℕ) × TilesLast handles (suc before) offset left late rest × IsSent page w late page1 w1

  module _ {R : Type 0} (gives : R → List ℕ → R → Type 0) (failed : R → Bool) (ended : R → Type 0) (white : List ℕ → Type 0) where
    -- all stretches were handled, to the end of the source
    pub record FillsAll (old new : Window R) (page : List ℕ) (w : W) (page1 : List ℕ) (w1 : W) (totals : Totals) : Type 0 where
      pub ss : List Stretch
      pub text : List ℕ
      pub reaches : Reaches gives failed handles white ended old.reads old.source ss text new
      pub ends : (new.has_ended ≡ true) × ended new.source
      pub rest : white new.bytes
      pub totals_are : HasTotals ss new.bytes text totals
      pub sent : IsSent page w ss page1 w1

    abbrev pub Fills : Window R → List ℕ → W → Window R → List ℕ → W → Result Totals Failure → Type 0
    Fills old page w new page1 w1 (Ok totals) = FillsAll old new page w page1 w1 totals
    Fills old page w new page1 w1 (Err by.Read) =
        (ss : List Stretch) × (rest : List ℕ) × (some : ReachesOn gives failed handles white ended old.reads old.source ss rest new.source) × IsSent page w ss page1 w1
        × (IsCutShort gives failed handles white ended old.reads ss rest some.text some.last new.source ⊎ (length ss ≡ most_handled))
    Fills old page w new page1 w1 (Err by.Write) =
        (ss : List Stretch) × (rest : List ℕ) × ReachesOn gives failed handles white ended old.reads old.source ss rest new.source × IsBroken page w ss w1
    Fills old page w new page1 w1 (Err by.Memory) =
        (ss : List Stretch) × (rest : List ℕ) × ReachesOn gives failed handles white ended old.reads old.source ss rest new.source × IsSent page w ss page1 w1

abbrev pub has_broken : Result Totals Failure → Bool
has_broken (Err by.Write) = true
has_broken _ = false

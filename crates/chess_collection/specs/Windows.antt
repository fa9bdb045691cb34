-- The bytes of a collection that are at hand, as many as are asked for.
--   Window   a source, its bytes that were read and not used, whether its end was seen, the same as the reader of its pieces knows it, and how many more reads
--            there may be
--   KnowsItsEnd  the source has ended where its end was seen
--   Comes    more bytes came, and are at hand after the others; no read failed, and none was made after the end was seen
--   ReadEnds    the next read failed, or there may be no more
--   Loses    at most 65,536 bytes came, and there was no memory for them
--   NoMore   bytes came, something holds of them, and then a read failed, or there may be no more, and all bytes that came are at hand; or there was no memory
--   IsWide   as many bytes are at hand as are looked at for a game, which are more than it may have; or all that are left
--   most_at_hand  the most bytes at hand: 1,245,184
--   HasRun   some bytes have a run that a handler calls white, at least half as long as a length, but for 65,536
--   AreFew   no more bytes of a text are at hand than `most_at_hand`; or the text has a run of white at least half as long
--   StayFew  the bytes at hand are no more than before, or than `most_at_hand`; or they begin with such a run
--   IsLookedAt   the handler gets these bytes: all that are left, or the first 1,179,648 or more of them, or fewer if they are enough; and few of the whole text
use Rattle.std.specs.Prelude.{◌≡◌, ◌⊎◌, ◌≤◌, ℕ, ◌+◌, ◌*◌, Bool, true, false, List, [], ◌++◌, length}
use Rattle.byte_streams.specs.Calls.{Carries}
use Rattle.chess_command_line.specs.declared.collection.Failure.{Failure}
use Rattle.chess_command_line.specs.declared.collection.Failure.TheVariants as by

pub record Window (R : Type 0) : Type 0 where
  pub source : R
  pub bytes : List ℕ
  pub has_ended : Bool
  pub seen : Bool
  pub reads : ℕ

abbrev pub KnowsItsEnd : {R : Type 0} → (R → Type 0) → Window R → Type 0
KnowsItsEnd ended w = (w.seen ≡ w.has_ended) × (w.has_ended ≡ true → ended w.source)

pub record Comes {R : Type 0} (gives : R → List ℕ → R → Type 0) (failed : R → Bool) (old new : Window R) : Type 0 where
  pub bytes : List ℕ
  pub came : Carries gives old.source bytes new.source
  pub well : failed new.source ≡ failed old.source
  pub whole : new.bytes ≡ old.bytes ++ bytes
  pub counted : new.reads + length came.pieces ≡ old.reads
  pub sized : length bytes ≤ 65536 * length came.pieces
  pub still : old.has_ended ≡ true → (bytes ≡ []) × (new.has_ended ≡ true)

-- as many were made as may be
abbrev pub ReadEnds : {R : Type 0} → (R → List ℕ → R → Type 0) → (R → Bool) → Window R → R → Type 0
ReadEnds gives failed last new = (gives last.source [] new × (failed new ≡ true)) ⊎ ((new ≡ last.source) × (last.reads ≡ 0))

abbrev pub Loses : {R : Type 0} → (R → List ℕ → R → Type 0) → (R → Bool) → R → R → Type 0
Loses gives failed last new = (lost : List ℕ) × Carries gives last lost new × (length lost ≤ 65536) × (failed new ≡ failed last)

-- the bytes at hand before the last read, of a source that hadn't ended
pub record ComesSome {R : Type 0} (gives : R → List ℕ → R → Type 0) (failed : R → Bool) (holds : List ℕ → Type 0) (old last : Window R) : Type 0 where
  pub comes : Comes gives failed old last
  pub goes_on : last.has_ended ≡ false
  pub so : holds last.bytes

abbrev pub NoMore : {R : Type 0} → (R → List ℕ → R → Type 0) → (R → Bool) → (List ℕ → Type 0) → Window R → Window R → Failure → Type 0
NoMore {R} gives failed holds old new by.Read = (last : Window R) × ComesSome gives failed holds old last × (new.bytes ≡ last.bytes) × ReadEnds gives failed last new.source
NoMore gives failed holds old new by.Write = ⊥
NoMore {R} gives failed holds old new by.Memory = (last : Window R) × ComesSome gives failed holds old last × Loses gives failed last.source new.source

-- 1,179,648
abbrev pub IsWide : {R : Type 0} → Window R → Type 0
IsWide w = (1179648 ≤ length w.bytes) ⊎ (w.has_ended ≡ true)

abbrev pub most_at_hand : ℕ
most_at_hand = 1245184

pub record HasRun (white : List ℕ → Type 0) (text : List ℕ) (count : ℕ) : Type 0 where
  pub before : List ℕ
  pub run : List ℕ
  pub after : List ℕ
  pub parts : text ≡ before ++ (run ++ after)
  pub is_white : white run
  pub long : count ≤ 2 * length run + 65536

abbrev pub AreFew : (List ℕ → Type 0) → List ℕ → List ℕ → Type 0
AreFew white text bytes = (length bytes ≤ most_at_hand) ⊎ HasRun white text (length bytes)

abbrev pub StayFew : (List ℕ → Type 0) → List ℕ → List ℕ → Type 0
StayFew white old bytes = (length bytes ≤ length old) ⊎ AreFew white bytes bytes

pub record IsLookedAt (white : List ℕ → Type 0) (text window left : List ℕ) (enough : Type 0) : Type 0 where
  pub more : List ℕ
  pub parts : left ≡ window ++ more
  pub wide : (1179648 ≤ length window) ⊎ (more ≡ []) ⊎ enough
  pub few : AreFew white text window

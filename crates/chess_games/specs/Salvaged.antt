-- What is read of a collection whose bad games are salvaged, and written of it. How a collection is gone over is in `chess_collection/specs/Handling.antt`.
--   SalvagedEntry  a good game, one that was saved from its text, or bytes that are passed over
--   IsSavedFrom  the game is what strict reading gives of the text that the first `used` of those bytes were repaired to, and they have none
--   IsEntryOf    what bytes begin with: an entry that has `used` of them; the end of a file (`is_end` of chess_salvage) is neither saved nor passed over
--   found_text   what is written of a game that was found after `before` others, if it is asked for
--   text_of      what is written of an entry after `before` others, if it is of the part
--   fate_in      what becomes of its bytes
--   IsSavedAs    `used` bytes at the start of those that are looked at are an entry, and this is written of it
--   IsSavedIn    so it is of a text with letters of men as the standard has them, where letters of a language are given
--   SavingEnds   how a run ends: what comes before all games is written, and then the good and the saved games of the part in order, as the end of going over a
--                collection says, with how many of the part are passed over; what is left is white or the end of a file (`ComesLast` of chess_salvage)
use Rattle.std.specs.Prelude.{◌≡◌, ◌<◌, ℕ, ◌-◌, Bool, false, if◌then◌else◌, List, [], Option, Some, None, Result}
use Rattle.chess_collection.specs.Handling.{GoesOver}
use Rattle.chess_collection.specs.Windows.{Window}
use Rattle.chess_collection.specs.declared.going.Totals.{Totals}
use Rattle.chess_collection.specs.declared.handler.Fate.{Fate}
use Rattle.chess_collection.specs.declared.handler.Fate.TheVariants as fates
use Rattle.chess_collection.specs.declared.handler.Fate.TheVariants.{Read, Lost, Left}
use Rattle.chess_items.specs.Abandoned.{GivesUp}
use Rattle.chess_pgn.specs.Games.{Game}
use Rattle.chess_pgn.specs.Reading.{BeginsWithGame, HasNoGame}
use Rattle.chess_command_line.specs.declared.collection.Failure.{Failure}
use Rattle.chess_repair.specs.Letters.{IsInLetters}
use Rattle.chess_repair.specs.declared.letters.Letters.{Letters}
use Rattle.chess_repair.specs.declared.repair.Repair.{Repair}
use Rattle.chess_salvage.specs.Endings.{ComesLast, is_end}
use Rattle.chess_salvage.specs.Salvaging.{IsSalvaged}
use Rattle.chess_games.specs.declared.form.Form.{Form}
use Rattle.chess_games.specs.Forms.{head_in, text_in}
use Rattle.chess_games.specs.Parts.{Part, is_in}

pub data SalvagedEntry : Type 0 where
  Good : Game → SalvagedEntry
  Saved : Game → SalvagedEntry
  Passed : SalvagedEntry

pub record IsSavedFrom (bytes : List ℕ) (used : ℕ) (game : Game) : Type 0 where
  pub none : HasNoGame bytes
  pub goes_on : is_end bytes ≡ false
  pub some : 0 < used
  pub repairs : List Repair
  pub cuts : List Repair
  pub salvaged : IsSalvaged bytes repairs cuts used (Some game)

abbrev pub IsEntryOf : List ℕ → ℕ → SalvagedEntry → Type 0
IsEntryOf bytes used (Good game) = BeginsWithGame bytes game used
IsEntryOf bytes used (Saved game) = IsSavedFrom bytes used game
IsEntryOf bytes used Passed = HasNoGame bytes × (is_end bytes ≡ false) × GivesUp bytes used

abbrev pub found_text : Form → ℕ → Bool → Option Game → List ℕ
found_text form before asked (Some game) = if asked then text_in form before game else []
found_text form before asked None = []

abbrev pub text_of : Form → ℕ → Bool → SalvagedEntry → List ℕ
text_of form before asked (Good game) = found_text form before asked (Some game)
text_of form before asked (Saved game) = found_text form before asked (Some game)
text_of form before asked Passed = []

-- of bytes that are passed over: a game of the part is counted
abbrev pub lost_fate : Bool → Fate
lost_fate asked = if asked then Lost else Left

abbrev pub fate_in : Bool → SalvagedEntry → Fate
fate_in asked (Good game) = Read
fate_in asked (Saved game) = fates.Saved
fate_in asked Passed = lost_fate asked

-- numbers count from 1
abbrev pub IsSavedAs : Form → Part → ℕ → ℕ → List ℕ → ℕ → Fate → List ℕ → Type 0
IsSavedAs form part number offset bytes used fate text =
    (entry : SalvagedEntry) × IsEntryOf bytes used entry × (fate ≡ fate_in (is_in part (number - 1)) entry) × (text ≡ text_of form (number - 1) (is_in part (number - 1)) entry)

abbrev pub IsSavedIn : Option Letters → Form → Part → ℕ → ℕ → List ℕ → ℕ → Fate → List ℕ → Type 0
IsSavedIn letters form part number offset bytes used fate text = (spelt : List ℕ) × IsInLetters letters bytes spelt × IsSavedAs form part number offset spelt used fate text

abbrev pub SavingEnds : {R W : Type 0} → (R → List ℕ → R → Type 0) → (R → Bool) → (R → Type 0) → (W → List ℕ → W → Type 0) → (W → Bool) → Option Letters → Form → Part → R → W → W → Result Totals Failure → Type 0
SavingEnds {R} gives failed ended takes write_failed letters form part source old new result =
    (last : Window R) × GoesOver gives failed (λ number offset bytes used fate text. IsSavedIn letters form part number offset bytes used fate text) (λ bytes. ComesLast bytes) ended 1099511627776 takes write_failed (head_in form) source last old new result

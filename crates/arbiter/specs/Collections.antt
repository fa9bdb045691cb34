-- Which rows a run over a collection of games writes. How a collection is gone over is in `chess_collection/specs/Handling.antt`.
--   JudgedEntry  a game, or a fault where no game can be read, and the game that its text is repaired to, if there is one, and what its tags say
--   IsMended     the game that a text is repaired to, if there is one
--   Explains     what bytes begin with: an entry that has `used` of them; the end of a file (`is_end` of chess_salvage) is no bad game
--   row_of       the row of an entry with its number and place, where it is asked for
--   IsRow        `used` bytes at the start of those that are looked at are an entry, and this is its row
--   IsRowIn      so it is of a text with letters of men as the standard has them, where letters of a language are given
--   header_text  the names of the columns, where the format has a row of them
--   JudgeEnds    how a run ends: the names of the columns are written, and then the rows, as the end of going over a collection says; what is left is white
--                or the end of a file (`ComesLast` of chess_salvage)
use Rattle.std.specs.Prelude.{◌≡◌, ◌≢◌, ◌≤◌, ℕ, Bool, false, not, ◌&&◌, if◌then◌else◌, List, [], take, Option, Some, None, Result}
use Rattle.chess_collection.specs.Handling.{GoesOver}
use Rattle.chess_collection.specs.Headings.{Heading, IsHeadingOf}
use Rattle.chess_collection.specs.Windows.{Window}
use Rattle.chess_collection.specs.declared.going.Totals.{Totals}
use Rattle.chess_collection.specs.declared.handler.Fate.{Fate}
use Rattle.chess_collection.specs.declared.handler.Fate.TheVariants.{Read, Lost}
use Rattle.chess_items.specs.Abandoned.{GivesUp}
use Rattle.chess_items.specs.declared.fault.FaultKind.TheVariants as lacks
use Rattle.chess_items.specs.declared.fault.PgnFault.{PgnFault}
use Rattle.chess_pgn.specs.Games.{Game}
use Rattle.chess_pgn.specs.Reading.{BeginsWithGame, HasNoGame}
use Rattle.chess_command_line.specs.declared.collection.Failure.{Failure}
use Rattle.chess_repair.specs.Letters.{IsInLetters}
use Rattle.chess_repair.specs.declared.repair.Repair.{Repair}
use Rattle.chess_salvage.specs.Endings.{ComesLast, is_end}
use Rattle.chess_salvage.specs.Salvaging.{IsSalvaged}
use Rattle.arbiter.specs.declared.judge.Asked.{Asked}
use Rattle.arbiter.specs.declared.row.Format.{Format}
use Rattle.arbiter.specs.declared.row.Format.TheVariants.{Csv, Jsonl}
use Rattle.csv.specs.Writing as csv
use Rattle.arbiter.specs.Cells.{csv_lines, row_text}
use Rattle.arbiter.specs.Rows.{IsRosterOf, Roster, column_names, fault_cells, game_cells, has_finding, is_unmarked}

pub data JudgedEntry : Type 0 where
  Found : Game → Heading → (unmarked : Bool) → JudgedEntry
  Bad : PgnFault → (mended : Option Game) → Heading → Roster → JudgedEntry

-- ---- what is found

-- what `chess_salvage` makes of it: some of its first bytes are repaired, and the game is what strict reading gives of them
abbrev pub IsMended : List ℕ → Option Game → Type 0
IsMended text mended = (repairs cuts : List Repair) × (used : ℕ) × IsSalvaged text repairs cuts used mended

-- a bad game has all bytes up to where its text says that the next one begins; its fault is placed by the bytes of the collection before it
abbrev pub Explains : ℕ → List ℕ → ℕ → JudgedEntry → Type 0
Explains offset bytes used (Found game heading unmarked) = BeginsWithGame bytes game used × IsHeadingOf bytes heading × (unmarked ≡ is_unmarked (take used bytes) game.outcome)
Explains offset bytes used (Bad fault mended heading roster) = (offset ≤ fault.place) × (fault.kind ≢ lacks.Memory) × HasNoGame bytes × (is_end bytes ≡ false) × GivesUp bytes used × IsMended bytes mended × IsHeadingOf bytes heading × IsRosterOf bytes roster

-- what becomes of its bytes
abbrev pub fate_of : JudgedEntry → Fate
fate_of (Found game heading unmarked) = Read
fate_of (Bad fault mended heading roster) = Lost

-- ---- what is written

-- the row of an entry: of each that can't be read, and of each game, or only of those with a finding
abbrev pub row_of : Asked → ℕ → ℕ → JudgedEntry → List ℕ
row_of asked number offset (Found game heading unmarked) =
    if asked.findings && not (has_finding game heading unmarked) then [] else row_text asked.format (game_cells number offset game heading (Some unmarked) None)
row_of asked number offset (Bad fault (Some game) heading roster) = row_text asked.format (game_cells number offset game heading None (Some fault))
row_of asked number offset (Bad fault None heading roster) = row_text asked.format (fault_cells number offset roster heading fault)

abbrev pub IsRow : Asked → ℕ → ℕ → List ℕ → ℕ → Fate → List ℕ → Type 0
IsRow asked number offset bytes used fate text = (entry : JudgedEntry) × Explains offset bytes used entry × (fate ≡ fate_of entry) × (text ≡ row_of asked number offset entry)

abbrev pub IsRowIn : Asked → ℕ → ℕ → List ℕ → ℕ → Fate → List ℕ → Type 0
IsRowIn asked number offset bytes used fate text = (spelt : List ℕ) × IsInLetters asked.letters bytes spelt × IsRow asked number offset spelt used fate text

-- the names of the columns, where the format has a row of them
abbrev pub header_text : Format → List ℕ
header_text Csv = csv.row_text csv_lines column_names
header_text Jsonl = []

abbrev pub JudgeEnds : {R W : Type 0} → (R → List ℕ → R → Type 0) → (R → Bool) → (R → Type 0) → (W → List ℕ → W → Type 0) → (W → Bool) → Asked → ℕ → R → Window R → W → W → Result Totals Failure → Type 0
JudgeEnds gives failed ended takes write_failed asked reads source new old w result =
    GoesOver gives failed (λ number offset bytes used fate text. IsRowIn asked number offset bytes used fate text) (λ bytes. ComesLast bytes) ended reads takes write_failed (header_text asked.format) source new old w result

-- A game that is read, or saved where strict reading refuses its text.
--   kind_code       the number of a kind of repair
--   repair_report   a repair in numbers
--   cut_report      the same of a line that was cut off, without its place, which no definition says; unplaced, any without it
--   ListsAll       the repairs of a text, and then what was cut off
--   IsListed        values that are put first in a room, as many as it has places for, and how many they are
--   IsSaved         a bad game: some first bytes of the text are salvaged (`IsSalvaged` of chess_salvage) to a game that is written, the repairs with it
--   IsLost          no game is written: only whitespace follows, or the end of a file (`ComesLast` of chess_salvage); or a bad game, which is no such end, with
--                   the bytes that are given up with it; or there is no memory
--   AreAsBefore     nothing but the number of those bytes is written
--   IsReadOrSaved   what is answered of the game at the start of a text
use Rattle.std.specs.Prelude.{◌≡◌, ◌⊎◌, ◌<◌, ℕ, true, false, List, ◌++◌, drop, length, map, take, Some}
use Rattle.chess_items.specs.Abandoned.{GivesUp}
use Rattle.chess_items.specs.declared.fault.FaultKind.{FaultKind}
use Rattle.chess_pgn.specs.Games.{Game}
use Rattle.chess_pgn.specs.Written.{game_text}
use Rattle.chess_repair.specs.declared.repair.Repair.{Repair}
use Rattle.chess_repair.specs.declared.repair.RepairKind.{RepairKind}
use Rattle.chess_repair.specs.declared.repair.RepairKind.TheVariants as k
use Rattle.chess_salvage.specs.Endings.{ComesLast, is_end}
use Rattle.chess_salvage.specs.Salvaging.{IsSalvaged}
use Rattle.chess_bindings.specs.Codes.{fault_code, no_game, no_memory}
use Rattle.chess_bindings.specs.Games.{IsBad, IsFound, is_of_text}
use Rattle.chess_bindings.specs.Handed.{IsHanded}
use Rattle.chess_bindings.specs.declared.saved.RepairReport.{RepairReport}

-- the kinds in the order of their list
abbrev pub kind_code : RepairKind → ℕ
kind_code k.TagQuotes = 0
kind_code k.TagBracket = 1
kind_code k.TagName = 2
kind_code k.Castling = 3
kind_code k.Hyphen = 4
kind_code k.Colon = 5
kind_code k.Pawn = 6
kind_code k.Small = 7
kind_code k.Large = 8
kind_code k.Promotion = 9
kind_code k.Sign = 10
kind_code k.Said = 11
kind_code k.Value = 12
kind_code k.Result = 13
kind_code k.Glyphs = 14
kind_code k.Number = 15
kind_code k.Dots = 16
kind_code k.Space = 17
kind_code k.Control = 18
kind_code k.Stray = 19
kind_code k.Offer = 20
kind_code k.Angles = 21
kind_code k.Bracket = 22
kind_code k.Marker = 23
kind_code k.Symbol = 24
kind_code k.Nested = 25
kind_code k.Comment = 26
kind_code k.Unclosed = 27
kind_code k.Prose = 28
kind_code k.Fen = 29
kind_code k.Squares = 30
kind_code k.Null = 31
kind_code k.Illegal = 32
kind_code k.Unreadable = 33
kind_code k.Variation = 34

-- a repair in numbers
abbrev pub repair_report : Repair → RepairReport
repair_report repair = record { place = repair.place; length = repair.length; written = repair.written; kind = kind_code repair.kind }

-- a line that was cut off, in numbers, without its place
abbrev pub cut_report : Repair → RepairReport
cut_report cut = record { place = 0; length = cut.length; written = cut.written; kind = kind_code cut.kind }

-- the same of a repair in numbers
abbrev pub unplaced : RepairReport → RepairReport
unplaced report = record { place = 0; length = report.length; written = report.written; kind = report.kind }

-- the repairs, and then what was cut off
abbrev pub ListsAll : (repairs cuts : List Repair) → List RepairReport → Type 0
ListsAll repairs cuts reports = (last : List RepairReport) × (reports ≡ map repair_report repairs ++ last) × (map unplaced last ≡ map cut_report cuts)

-- as many values as there are places for
abbrev pub IsListed : {X : Type 0} → List X → (count : ℕ) → (old new : List X) → Type 0
IsListed values count old new = (count ≡ length values) × (new ≡ take (length old) values ++ drop (length values) old)

-- a bad game is saved
pub record IsSaved (text : List ℕ) (code count' used' listed' : ℕ) (room room' : List ℕ) (reports reports' : List RepairReport) : Type 0 where
  pub repairs : List Repair
  pub cuts : List Repair
  pub game : Game
  pub salvaged : IsSalvaged text repairs cuts used' (Some game)
  pub goes_on : 0 < used'
  pub handed : IsHanded (game_text game) code count' room room'
  pub all : List RepairReport
  pub named : ListsAll repairs cuts all
  pub listed : IsListed all listed' reports reports'

-- no game is written
abbrev pub IsLost : List ℕ → (code used used' : ℕ) → Type 0
IsLost text code used used' =
    ((code ≡ no_game) × (used' ≡ used) × ComesLast text)
    ⊎ (((kind : FaultKind) × (is_of_text kind ≡ true) × (code ≡ fault_code kind) × IsBad text × (is_end text ≡ false) × GivesUp text used')
    ⊎ ((code ≡ no_memory) × (used' ≡ used)))

-- the rest of the answer
pub record AreSame (count count' listed listed' : ℕ) (room room' : List ℕ) (reports reports' : List RepairReport) : Type 0 where
  pub same_count : count' ≡ count
  pub same_listed : listed' ≡ listed
  pub same_room : room' ≡ room
  pub same_reports : reports' ≡ reports

-- nothing is written
abbrev pub AreAsBefore : (count count' used used' listed listed' : ℕ) → (room room' : List ℕ) → (reports reports' : List RepairReport) → Type 0
AreAsBefore count count' used used' listed listed' room room' reports reports' =
    (used' ≡ used) × AreSame count count' listed listed' room room' reports reports'

-- the game at the start of a text, which is read, or saved
abbrev pub IsReadOrSaved : List ℕ → (code count count' used used' listed listed' : ℕ) → (room room' : List ℕ) → (reports reports' : List RepairReport) → Type 0
IsReadOrSaved text code count count' used used' listed listed' room room' reports reports' =
    (IsFound text code count' used' room room' × (listed' ≡ 0) × (reports' ≡ reports))
    ⊎ ((IsBad text × (is_end text ≡ false) × IsSaved text code count' used' listed' room room' reports reports')
    ⊎ (IsLost text code used used' × AreSame count count' listed listed' room room' reports reports'))

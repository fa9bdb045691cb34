-- Games of a text, as a caller gets them.
--   is_of_text    a fault of the text, and not want of memory
--   IsBad         no game is at the start of the text, and it isn't white alone
--   IsFaulty      of a bad game: the status of a fault of the text, with a place in it, at its end at most; which fault, and which place, has no definition
--   IsNone        only whitespace follows; or a bad game; or there is no memory. But for a bad game's place the number is as it was
--   IsGameHanded  of a text: the game at its start is written in export form, with the number of the bytes that it takes; or there is none
--   IsPassed      of a text: the bytes of the game at its start; or all, which are white; or those that are given up with a bad game (`GivesUp` of
--                chess_items); or there is no memory
use Rattle.std.specs.Prelude.{◌≡◌, ◌⊎◌, ◌≤◌, ℕ, Bool, true, false, List, length}
use Rattle.chess_items.specs.Abandoned.{GivesUp}
use Rattle.chess_items.specs.declared.fault.FaultKind.{FaultKind}
use Rattle.chess_items.specs.declared.fault.FaultKind.TheVariants.{Memory}
use Rattle.chess_pgn.specs.Games.{Game}
use Rattle.chess_pgn.specs.Reading.{HasNoGame, BeginsWithGame, IsWhite}
use Rattle.chess_pgn.specs.Written.{game_text}
use Rattle.chess_bindings.specs.Codes.{fault_code, no_game, no_memory, ok}
use Rattle.chess_bindings.specs.Handed.{IsHanded}

-- a fault of the text, and not want of memory
abbrev pub is_of_text : FaultKind → Bool
is_of_text Memory = false
is_of_text _ = true

-- a game that can't be read: there is none, and the text isn't white alone
abbrev pub IsBad : List ℕ → Type 0
IsBad text = HasNoGame text × (IsWhite text → ⊥)

-- of a bad game: the status of a fault, and a place
abbrev pub IsFaulty : List ℕ → (code used' : ℕ) → Type 0
IsFaulty text code used' = IsBad text × (kind : FaultKind) × (is_of_text kind ≡ true) × (code ≡ fault_code kind) × (used' ≤ length text)

-- why no game is written
abbrev pub IsNone : List ℕ → (code used used' : ℕ) → Type 0
IsNone text code used used' =
    ((code ≡ no_game) × (used' ≡ used) × IsWhite text) ⊎ IsFaulty text code used' ⊎ ((code ≡ no_memory) × (used' ≡ used))

-- the game at the start of the text is written
abbrev pub IsFound : List ℕ → (code count' used' : ℕ) → (room room' : List ℕ) → Type 0
IsFound text code count' used' room room' = (game : Game) × BeginsWithGame text game used' × IsHanded (game_text game) code count' room room'

-- what is answered of the game at the start of a text
abbrev pub IsGameHanded : List ℕ → (code count count' used used' : ℕ) → (room room' : List ℕ) → Type 0
IsGameHanded text code count count' used used' room room' =
    IsFound text code count' used' room room' ⊎ ((count' ≡ count) × (room' ≡ room) × IsNone text code used used')

-- how many bytes to pass over
abbrev pub IsPassed : List ℕ → (code used used' : ℕ) → Type 0
IsPassed text code used used' =
    ((code ≡ ok) × (((game : Game) × BeginsWithGame text game used') ⊎ (IsWhite text × (used' ≡ length text)) ⊎ (IsBad text × GivesUp text used')))
    ⊎ ((code ≡ no_memory) × (used' ≡ used))

-- What is answered of a game that is read, saved or lost.
use Rattle.std.proofs.Common.{◌≡◌, ℕ, List, refl, inl, inr}
use Rattle.std.specs.Prelude.{◌⊎◌, true, false}
use Rattle.chess_items.specs.Abandoned.{GivesUp}
use Rattle.chess_items.specs.declared.fault.FaultKind.{FaultKind}
use Rattle.chess_items.specs.declared.fault.FaultKind.TheVariants.{Memory}
use Rattle.chess_pgn.specs.Games.{Game}
use Rattle.chess_pgn.specs.Reading.{BeginsWithGame, HasNoGame, IsWhite}
use Rattle.chess_pgn.specs.Written.{game_text}
use Rattle.chess_salvage.specs.Endings.{is_end}
use Rattle.chess_bindings.specs.Codes.{fault_code}
use Rattle.chess_bindings.specs.Games.{is_of_text}
use Rattle.chess_bindings.specs.Handed.{IsHanded}
use Rattle.chess_bindings.specs.Saved.{AreAsBefore, IsReadOrSaved, IsSaved}
use Rattle.chess_bindings.specs.declared.saved.RepairReport.{RepairReport}
use Rattle.chess_bindings.proofs.GameLemmas.{is_bad}

pub read_game : (text : List ℕ) → (game : Game) → (code count count' used used' listed : ℕ) → (room room' : List ℕ) → (reports : List RepairReport)
    → BeginsWithGame text game used' → IsHanded (game_text game) code count' room room' → IsReadOrSaved text code count count' used used' listed 0 room room' reports reports
read_game text game code count count' used used' listed room room' reports at handed = inl ((game, at, handed), refl, refl)

pub saved_game : (text : List ℕ) → (kind : FaultKind) → (code count count' used used' listed listed' : ℕ) → (room room' : List ℕ) → (reports reports' : List RepairReport)
    → is_of_text kind ≡ true → (kind ≡ Memory) ⊎ HasNoGame text → (IsWhite text → kind ≡ Memory) → is_end text ≡ false → IsSaved text code count' used' listed' room room' reports reports'
    → IsReadOrSaved text code count count' used used' listed listed' room room' reports reports'
saved_game text kind code count count' used used' listed listed' room room' reports reports' of_text none white on saved =
    inr (inl (is_bad text kind of_text none white, on, saved))

pub lost_game : (text : List ℕ) → (kind : FaultKind) → (code count count' used used' given listed listed' : ℕ) → (room room' : List ℕ) → (reports reports' : List RepairReport)
    → is_of_text kind ≡ true → (kind ≡ Memory) ⊎ HasNoGame text → (IsWhite text → kind ≡ Memory) → is_end text ≡ false → code ≡ fault_code kind → GivesUp text given
    → AreAsBefore count count' used used' listed listed' room room' reports reports' → IsReadOrSaved text code count count' used given listed listed' room room' reports reports'
lost_game text kind code count count' used used' given listed listed' room room' reports reports' of_text none white on coded gives same =
    inr (inr (inr (inl (kind, of_text, coded, is_bad text kind of_text none white, on, gives)), same.1))

-- What is answered of the game at the start of a text.
use Rattle.std.proofs.Common.{◌≡◌, ◌∙◌, ◌≤◌, ℕ, List, length, refl, inl, inr, sym, ap, subst}
use Rattle.std.specs.Prelude.{◌⊎◌, true, Option, Some, IfSome}
use Rattle.std.proofs.lemmas.Bool.{true≢false}
use Rattle.chess_items.specs.Abandoned.{GivesUp}
use Rattle.chess_items.specs.declared.fault.FaultKind.{FaultKind}
use Rattle.chess_items.specs.declared.fault.FaultKind.TheVariants.{Memory}
use Rattle.chess_types.specs.board.Lines.{last}
use Rattle.chess_fen.specs.Writing.{written}
use Rattle.chess_pgn.specs.Games.{Game}
use Rattle.chess_pgn.specs.Reading.{HasNoGame, BeginsWithGame, IsWhite}
use Rattle.chess_pgn.specs.Written.{game_text}
use Rattle.chess_report.specs.MainLine.{main}
use Rattle.chess_bindings.specs.Codes.{fault_code}
use Rattle.chess_bindings.specs.Games.{IsBad, IsGameHanded, IsNone, IsPassed, is_of_text}
use Rattle.chess_bindings.specs.Handed.{IsHanded}
use Rattle.chess_bindings.specs.declared.reports.GameReport.{GameReport}
use Rattle.chess_bindings.specs.Reports.{IsReport, report_code}

pub game_told : (text : List ℕ) → (game : Game) → (code count count' used used' : ℕ) → (room room' : List ℕ)
    → BeginsWithGame text game used' → IsHanded (game_text game) code count' room room' → IsGameHanded text code count count' used used' room room'
game_told text game code count count' used used' room room' at handed = inl (game, at, handed)

pub report_told : (text : List ℕ) → (game : Game) → (code count count' used used' : ℕ) → (report report' : GameReport) → (room room' : List ℕ)
    → BeginsWithGame text game used' → report' ≡ report_code game → IsHanded (written (last (main game.tree))) code count' room room' → IsReport text code count count' used used' report report' room room'
report_told text game code count count' used used' report report' room room' at is handed = inl (game, at, is, handed)

-- a fault of the text says that the game at its start is bad
pub is_bad : (text : List ℕ) → (kind : FaultKind) → is_of_text kind ≡ true → (kind ≡ Memory) ⊎ HasNoGame text → (IsWhite text → kind ≡ Memory) → IsBad text
is_bad text kind of_text (inl memory) white = absurd (true≢false (sym of_text ∙ ap is_of_text memory))
is_bad text kind of_text (inr none) white = (none, λ w. absurd (true≢false (sym of_text ∙ ap is_of_text (white w))))

pub bad_told : (text : List ℕ) → (kind : FaultKind) → (used used' : ℕ) → is_of_text kind ≡ true → (kind ≡ Memory) ⊎ HasNoGame text → (IsWhite text → kind ≡ Memory) → used' ≤ length text
    → IsNone text (fault_code kind) used used'
bad_told text kind used used' of_text none white within = inr (inl (is_bad text kind of_text none white, kind, of_text, refl, within))

pub pass_bad : (text : List ℕ) → (kind : FaultKind) → (used used' : ℕ) → is_of_text kind ≡ true → (kind ≡ Memory) ⊎ HasNoGame text → (IsWhite text → kind ≡ Memory) → GivesUp text used'
    → IsPassed text 0 used used'
pass_bad text kind used used' of_text none white gives = inl (refl, inr (inr (is_bad text kind of_text none white, gives)))

pub pass_game : (text : List ℕ) → (game : Game) → (used used' : ℕ) → BeginsWithGame text game used' → IsPassed text 0 used used'
pass_game text game used used' at = inl (refl, inl (game, at))

pub pass_white : (text : List ℕ) → (used used' : ℕ) → IsWhite text → used' ≡ length text → IsPassed text 0 used used'
pass_white text used used' white all = inl (refl, inr (inl (white, all)))

pub some_found : {B : Type 0} → (P : B → Type 0) → (o : Option B) → (x : B) → IfSome o P → o ≡ Some x → P x
some_found {B} P o x h e = subst (λ (p : Option B). IfSome p P) e h

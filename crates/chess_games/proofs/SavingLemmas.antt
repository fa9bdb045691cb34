-- Games that can't be read.
use Rattle.std.proofs.Common.{◌≡◌, ◌⊎◌, inl, inr, ℕ, List, Option, subst, sym}
use Rattle.chess_items.specs.declared.fault.FaultKind.TheVariants.{Memory}
use Rattle.chess_items.specs.declared.fault.PgnFault.{PgnFault}
use Rattle.chess_pgn.specs.Reading.{HasNoGame}
use Rattle.chess_collection.specs.declared.handler.Fate.{Fate}
use Rattle.chess_repair.specs.Letters.{IsInLetters}
use Rattle.chess_repair.specs.declared.letters.Letters.{Letters}
use Rattle.chess_games.specs.Salvaged.{IsSavedAs, IsSavedIn}
use Rattle.chess_games.specs.Parts.{Part}
use Rattle.chess_games.specs.declared.form.Form.{Form}

-- a text whose fault isn't want of memory has none
pub fault_found : (text : List ℕ) (fault : PgnFault) → (fault.kind ≡ Memory → ⊥) → (fault.kind ≡ Memory) ⊎ HasNoGame text → HasNoGame text
fault_found text fault not (inl is) = absurd (not is)
fault_found text fault not (inr none) = none

-- what is said of a text in the standard's letters
pub saved_in : (letters : Option Letters) (form : Form) (part : Part) (number offset : ℕ) (bytes spelt slice : List ℕ) (used : ℕ) (fate : Fate) (text : List ℕ) → slice ≡ spelt → IsInLetters letters bytes spelt
    → IsSavedAs form part number offset slice used fate text → IsSavedIn letters form part number offset bytes used fate text
saved_in letters form part number offset bytes spelt slice used fate text same is saved = (spelt, is, subst (λ (t : List ℕ). IsSavedAs form part number offset t used fate text) same saved)

-- the same bytes, fate and text by other names
pub saved_so : (letters : Option Letters) (form : Form) (part : Part) (number offset : ℕ) (bytes : List ℕ) (used used1 : ℕ) (fate fate1 : Fate) (text text1 : List ℕ) → used1 ≡ used → fate1 ≡ fate → text1 ≡ text → IsSavedIn letters form part number offset bytes used fate text
    → IsSavedIn letters form part number offset bytes used1 fate1 text1
saved_so letters form part number offset bytes used used1 fate fate1 text text1 u f t saved =
    subst (λ (n : ℕ). IsSavedIn letters form part number offset bytes n fate1 text1) (sym u)
    (subst (λ (x : Fate). IsSavedIn letters form part number offset bytes used x text1) (sym f) (subst (λ (y : List ℕ). IsSavedIn letters form part number offset bytes used fate y) (sym t) saved))

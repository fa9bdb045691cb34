-- Items that are taken, where white items after the limit are passed over.
--   AreWhite  these bytes are white items, one after another
--   Passes    items are taken, or the text was white
--   PassBreaks  some are, and then there was no memory, or a read broke off
use Rattle.std.specs.Prelude.{◌≡◌, ◌≢◌, ℕ, ◌⊎◌, true, false, List, [], ◌++◌, Option, Some, None, Result, Ok, Err}
use Rattle.std.specs.List.{list_all}
use Rattle.byte_streams.specs.Calls.{Calls, joined}
use Rattle.chess_items.specs.Items.{Item, Spells, is_white}
use Rattle.chess_items.specs.steps.Skipping.{MaySkip, SkippedWhite}
use Rattle.chess_items.specs.steps.Taking.{TakesOne, Ran, RunBroke, RunShort}
use Rattle.chess_items.specs.steps.Texts.{BreaksWhile}
use Rattle.chess_items.specs.declared.at_hand.Fault.{Fault}
use Rattle.chess_items.specs.declared.at_hand.Fault.TheVariants as fault
use Rattle.chess_items.specs.declared.place.Place.TheVariants.{GameStart}
use Rattle.chess_items.specs.declared.taking.Stop.TheVariants as stop
use Rattle.chess_items.specs.declared.taking.Stopped.{Stopped}

abbrev pub AreWhite : List ℕ → Type 0
AreWhite bytes = (items : List Item) × (list_all is_white items ≡ true) × Spells GameStart bytes items []

module _ {X T : Type 0} (comes : X → List ℕ → X → Type 0) (at_hand : X → List ℕ) (all sound : X → Type 0) (reads : X → ℕ) (takes : TakesOne T) where
  -- all has come, and was white
  pub record WasWhite (old new : X) : Type 0 where
    pub pieces : List (List ℕ)
    pub came : Calls comes old pieces new
    pub white : AreWhite (at_hand old ++ joined pieces)
    pub ended : all new
    pub nothing : at_hand new ≡ []
    pub still : all old → joined pieces ≡ []

  -- white items alone came before the limit; all are used, and something else comes after them
  pub record NotWhite (stopped : Stopped) (mid new : X) : Type 0 where
    pub over : stopped.why ≡ stop.TooLarge
    pub white : stopped.white ≡ true
    pub skipped : SkippedWhite comes at_hand all sound reads stopped.place mid new
    pub other : at_hand new ≢ []

  -- a run of items ended, and whitespace alone was not taken for a game
  pub record Passed (limit : ℕ) (old new : X) (t u : T) (stopped : Stopped) : Type 0 where
    pub mid : X
    pub ran : Ran comes at_hand all sound reads takes limit old mid t u (Ok stopped)
    pub after : ((new ≡ mid) × (stopped.why ≡ stop.TooLarge → stopped.white ≡ false)) ⊎ NotWhite stopped mid new
    pub more : stopped.why ≡ stop.End → stopped.white ≡ false

  abbrev pub Passes : ℕ → X → X → T → T → Result (Option Stopped) Fault → Type 0
  Passes limit old new t u (Err e) = Unit {0}
  Passes limit old new t u (Ok None) = WasWhite old new
  Passes limit old new t u (Ok (Some stopped)) = Passed limit old new t u stopped

  -- so it did after the limit
  pub record WhiteBroke (limit : ℕ) (breaks : X → X → Type 0) (old new : X) (t : T) : Type 0 where
    pub mid : X
    pub last : T
    pub stopped : Stopped
    pub ran : Ran comes at_hand all sound reads takes limit old mid t last (Ok stopped)
    pub over : stopped.why ≡ stop.TooLarge
    pub white : stopped.white ≡ true
    pub broke : BreaksWhile comes at_hand breaks all reads (MaySkip stopped.place) mid new fault.Read

  -- there was no memory for it
  pub record WhiteShort (limit : ℕ) (breaks : X → X → Type 0) (old new : X) (t : T) : Type 0 where
    pub mid : X
    pub last : T
    pub stopped : Stopped
    pub ran : Ran comes at_hand all sound reads takes limit old mid t last (Ok stopped)
    pub over : stopped.why ≡ stop.TooLarge
    pub white : stopped.white ≡ true
    pub broke : BreaksWhile comes at_hand breaks all reads (MaySkip stopped.place) mid new fault.Memory

  abbrev pub PassBreaks : ℕ → (X → X → Type 0) → X → X → T → Fault → Type 0
  PassBreaks limit breaks old new t fault.Memory = RunShort comes at_hand all sound reads takes limit old new t ⊎ WhiteShort limit breaks old new t
  PassBreaks limit breaks old new t fault.Read = RunBroke comes at_hand all sound reads takes limit breaks old new t ⊎ WhiteBroke limit breaks old new t

-- A game at the start of a text that comes bit by bit.
--   ReadsNeeded  no read was made, or the last was made where no one game was at the start of the bytes before it, whatever follows
--   HasCome    bytes came, and a game is at the start of what was at hand and what came, whatever follows
--   NoneCame   all has come, and was white
--   FoundGame  one of both, as a game is answered or none
--   NotCome    bytes came, and no game is at the start of what was at hand and what came, and more than white, whatever follows; the first
--              items are used, the last read was needed, and the text is sound still
--   IsUnread   no one game is at the start of bytes, whatever follows, and they end within an item, before which a game may begin
--   HasStarved bytes came, by needed reads, and then there was no memory
--   HasBroken  bytes came, and then a read broke off; no one game is at the start of what was at hand and what came, whatever follows, and these end
--              within an item, before which a game may begin
--   IsFault    a read broke off, or there was no memory, or no game is there
--   TakesGame  what becomes of a text of which one game is taken
--   is_flood, halt_at  whether whitespace alone came before what reaches past the limit; where not, how far the items of a game were used
--   HaltsAt    how far the items of a game that can't be read were used
use Rattle.std.specs.Prelude.{◌≡◌, ◌≢◌, ◌⊎◌, ◌≤◌, ℕ, Bool, true, false, List, [], ◌++◌, length, Option, Some, None, Result, Ok, Err, ⊤}
use Rattle.byte_streams.specs.Calls.{Calls, joined}
use Rattle.chess_items.specs.Abandoned.{HaltsIn, UsesAllIn}
use Rattle.chess_items.specs.Items.{Item, Spells}
use Rattle.chess_items.specs.declared.fault.FaultKind.TheVariants.{Memory}
use Rattle.chess_items.specs.declared.skimming.Halt.{Halt}
use Rattle.chess_items.specs.declared.place.Place.TheVariants.{GameStart}
use Rattle.chess_items.specs.declared.taking.Stop.{Stop}
use Rattle.chess_items.specs.declared.taking.Stop.TheVariants as stop
use Rattle.chess_items.specs.steps.Texts.{LastSince, LastWhere}
use Rattle.chess_pgn.specs.Reading.{HasNoGame, HasNoGameYet, BeginsWithGame, IsWhite, MayBegin}
use Rattle.chess_pgn.specs.Sources.{EndsOpen, EndsWithin}
use Rattle.chess_pgn.specs.steps.GameCode.{game_of}
use Rattle.chess_pgn.specs.declared.game.Game.{Game}
use Rattle.chess_pgn.specs.declared.games.GamesFault.{GamesFault}
use Rattle.chess_pgn.specs.declared.games.GamesFault.TheVariants.{Pgn, Read}

module _ {X : Type 0} (comes : X → List ℕ → X → Type 0) (at_hand : X → List ℕ) (all : X → Type 0) (reads_left : X → ℕ) where
  abbrev pub ReadsNeeded : X → List ℕ → X → Type 0
  ReadsNeeded old came new = LastWhere comes at_hand reads_left HasNoGameYet old came new

  pub record HasCome {A : Type 0} (old new : X) (game : Game A) (used : ℕ) : Type 0 where
    pub pieces : List (List ℕ)
    pub came : Calls comes old pieces new
    pub reads : (more : List ℕ) → (all new → more ≡ []) → BeginsWithGame (at_hand old ++ (joined pieces ++ more)) (game_of game) used
    pub text : List ℕ
    pub parts : at_hand old ++ joined pieces ≡ text ++ at_hand new
    pub counted : length text ≡ used
    pub near : length (at_hand old) ≤ 65537 → length (at_hand new) ≤ 65536
    pub needed : ReadsNeeded old (joined pieces) new
    pub cursor : game.tree.path ≡ []
    pub still : all old → (joined pieces ≡ []) × all new

  pub record NoneCame (old new : X) : Type 0 where
    pub pieces : List (List ℕ)
    pub came : Calls comes old pieces new
    pub white : IsWhite (at_hand old ++ joined pieces)
    pub ended : all new
    pub nothing : at_hand new ≡ []
    pub still : all old → joined pieces ≡ []

  abbrev pub FoundGame : {A : Type 0} → X → X → Option (Game A × ℕ) → Type 0
  FoundGame old new (Some x) = HasCome old new x.0 x.1
  FoundGame old new None = NoneCame old new

abbrev pub IsUnread : List ℕ → Type 0
IsUnread begun = HasNoGameYet begun × EndsOpen begun

module _ {X : Type 0} (comes : X → List ℕ → X → Type 0) (at_hand : X → List ℕ) (all sound : X → Type 0) (reads_left : X → ℕ) where
  pub record NotCome (old new : X) : Type 0 where
    pub pieces : List (List ℕ)
    pub came : Calls comes old pieces new
    pub items : List Item
    pub begins : MayBegin items
    pub used : (more : List ℕ) → (all new → more ≡ []) → Spells GameStart (at_hand old ++ (joined pieces ++ more)) items (at_hand new ++ more)
    pub needed : LastSince comes at_hand all reads_left EndsOpen old (joined pieces) new
    pub sound_still : sound new
    pub none : (more : List ℕ) → (all new → more ≡ []) → HasNoGame (at_hand old ++ (joined pieces ++ more))
    pub dark : (more : List ℕ) → (all new → more ≡ []) → IsWhite (at_hand old ++ (joined pieces ++ more)) → ⊥
    pub still : all old → (joined pieces ≡ []) × all new

  -- memory was wanted
  pub record HasStarved (old new : X) : Type 0 where
    pub pieces : List (List ℕ)
    pub came : Calls comes old pieces new
    pub needed : LastSince comes at_hand all reads_left IsUnread old (joined pieces) new
    pub still : all old → (joined pieces ≡ []) × all new × sound new

  pub record HasBroken (breaks : X → X → Type 0) (old new : X) : Type 0 where
    pub pieces : List (List ℕ)
    pub mid : X
    pub came : Calls comes old pieces mid
    pub breaks_off : breaks mid new
    pub not_yet : all old → ⊥
    pub not_all : all mid → ⊥
    pub none : HasNoGameYet (at_hand old ++ joined pieces)
    pub within : EndsWithin (at_hand old ++ joined pieces) (at_hand mid)

  abbrev pub IsFault : (X → X → Type 0) → X → X → GamesFault → Type 0
  IsFault breaks old new Read = HasBroken breaks old new
  IsFault breaks old new (Pgn fault) = ((fault.kind ≡ Memory) × HasStarved old new) ⊎ ((fault.kind ≢ Memory) × NotCome old new)

  abbrev pub TakesGame : {A : Type 0} → (X → X → Type 0) → X → X → Result (Option (Game A × ℕ)) GamesFault → Type 0
  TakesGame breaks old new (Ok found) = FoundGame comes at_hand all reads_left old new found
  TakesGame breaks old new (Err fault) = IsFault breaks old new fault

-- whitespace alone came before what reaches past the limit
abbrev pub is_flood : Stop → Bool → Bool
is_flood stop.TooLarge white = white
is_flood _ white = false

abbrev pub halt_at : Bool → Halt → Option Halt
halt_at true halt = None
halt_at false halt = Some halt

-- its items up to there, or all of them
abbrev pub LeavesIn : {X : Type 0} → (X → List ℕ → X → Type 0) → (X → List ℕ) → (X → Type 0) → (X → ℕ) → X → X → Option Halt → Type 0
LeavesIn comes at_hand all reads_left old new (Some halt) = HaltsIn comes at_hand all reads_left old new halt
LeavesIn comes at_hand all reads_left old new None = UsesAllIn comes at_hand all reads_left old new

abbrev pub HaltsAt : {X A : Type 0} → (X → List ℕ → X → Type 0) → (X → List ℕ) → (X → Type 0) → (X → ℕ) → X → X → Option Halt → Result (Option (Game A × ℕ)) GamesFault → Type 0
HaltsAt comes at_hand all reads_left old new halt (Ok found) = ⊤
HaltsAt comes at_hand all reads_left old new halt (Err Read) = ⊤
HaltsAt comes at_hand all reads_left old new halt (Err (Pgn fault)) = (fault.kind ≡ Memory) ⊎ LeavesIn comes at_hand all reads_left old new halt

-- A game that is read from a text after its repair.
--   CutsOff      a text is written anew once for each of these repairs, one after the other, from its first byte to its last
--   HoldsGame    strict reading finds a game at the text's start, and nothing but whitespace after it
--   HoldsNone    strict reading finds no game there, or more than whitespace after it
--   most_cuts    how often a text is written anew, at most
--   HoldsFound      the game of the last text; none where that has none, or was written anew as often as may be
--   found_in     the game that was found, if one was
--   IsSalvaged   the first `used` bytes of a text were written anew by the repairs, then once for each cut, and that text was read
use Rattle.std.specs.Prelude.{◌≡◌, ◌⊎◌, ℕ, ◌+◌, List, [], ◌∷◌, ◌++◌, length, Option, Some, None}
use Rattle.chess_pgn.specs.Games.{Game}
use Rattle.chess_pgn.specs.Reading.{BeginsWithGame, HasNoGame, IsWhite}
use Rattle.chess_pgn.specs.declared.game.Game as code
use Rattle.chess_pgn.specs.steps.GameCode.{game_of}
use Rattle.chess_repair.specs.Repairs.{Rewrites}
use Rattle.chess_repair.specs.declared.repair.Repair.{Repair}

abbrev pub CutsOff : List ℕ → List Repair → List ℕ → Type 0
CutsOff text [] last = text ≡ last
CutsOff text (cut ∷ cuts) last = (mid : List ℕ) × Rewrites (length text) text (cut ∷ []) mid [] × CutsOff mid cuts last

abbrev pub HoldsGame : List ℕ → Game → Type 0
HoldsGame text game = (used : ℕ) × (rest : List ℕ) × BeginsWithGame text game used × ((front : List ℕ) × (text ≡ front ++ rest) × (length front ≡ used)) × IsWhite rest

abbrev pub HoldsNone : List ℕ → Type 0
HoldsNone text =
    HasNoGame text
    ⊎ ((game : Game) × (used : ℕ) × (front rest : List ℕ) × BeginsWithGame text game used × (text ≡ front ++ rest) × (length front ≡ used) × (IsWhite rest → ⊥))

abbrev pub most_cuts : ℕ
most_cuts = 64

abbrev pub HoldsFound : List ℕ → List Repair → Option Game → Type 0
HoldsFound last cuts (Some game) = HoldsGame last game
HoldsFound last cuts None = HoldsNone last ⊎ (length cuts ≡ most_cuts)

abbrev pub found_in : {A : Type 0} → Option (code.Game A) → Option Game
found_in (Some game) = Some (game_of game)
found_in None = None

pub record IsSalvaged (text : List ℕ) (repairs cuts : List Repair) (used : ℕ) (found : Option Game) : Type 0 where
  pub spelled : List ℕ
  pub rest : List ℕ
  pub rewritten : Rewrites (length text) text repairs spelled rest
  pub counted : used + length rest ≡ length text
  pub last : List ℕ
  pub cut_off : CutsOff spelled cuts last
  pub answers : HoldsFound last cuts found

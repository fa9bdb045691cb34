-- How a run over a collection of games ends: which games were read, and what the writer took.
--   games_text    the export forms of games, one after another
--   AreGames      games come one after another at the start of a text, and this is left
--   Collected     these games come so at the start of what a source gave up to where it was left, whatever it gives next; no read failed
--   WritesGames   they are written whole, and nothing else; no write failed
--   WholeBefore   before the last read games were there, and no one game after them; where these are all, this holds of what comes after them
--   HoldsWhole    so it is, or no read was made
--   EndsWritten   these games are written, which are at least those that are whole before the last read; no call failed
--   EndsWhole     so they are, the source has ended, and what is left of its bytes is white; no call failed
--   EndsAtFault   so they are, and after them is no game, and not white alone, whatever comes next; no read was made that this didn't need
--   EndsUnread    a read failed, the last, or there were as many reads as there may be, of some bytes each; the games at the start of what was read are
--                 written, each that is there whatever comes next, and what is after them may be the beginning of another
--   EndsInPart    a write failed or took no byte, and was the last call: a prefix of the games is written
use Rattle.std.specs.Prelude.{◌≡◌, ◌⊎◌, ℕ, ◌<◌, Bool, true, false, List, [], ◌∷◌, ◌++◌, length, ⊤}
use Rattle.std.specs.List.{AllByRecursion}
use Rattle.byte_streams.specs.Calls.{Calls, Carries, joined}
use Rattle.byte_streams.specs.declared.source.Source.{Ghosts as Source}
use Rattle.byte_streams.specs.declared.sink.Sink.{Ghosts as Sink}
use Rattle.chess_pgn.specs.Games.{Game}
use Rattle.chess_pgn.specs.Reading.{HasNoGame, HasNoGameYet, BeginsWithGame, IsWhite}
use Rattle.chess_pgn.specs.Sources.{EndsOpen}
use Rattle.chess_pgn.specs.Written.{game_text}
use Rattle.chess_loop.specs.RunEnds.{Broken}

-- the export forms of games, one after another
abbrev pub games_text : List Game → List ℕ
games_text [] = []
games_text (game ∷ games) = game_text game ++ games_text games

-- these games are at the start of the input, one after another, and the rest is left
abbrev pub AreGames : List ℕ → List Game → List ℕ → Type 0
AreGames input [] rest = input ≡ rest
AreGames input (game ∷ games) rest =
    (text others : List ℕ) × (input ≡ text ++ others) × BeginsWithGame input game (length text) × AreGames others games rest

-- where all of the input was given, nothing comes next, and the source has ended
pub record Collected {R : Type 0} (source : Source R) (reader reader' : R) (games : List Game) : Type 0 where
  pub bytes : List ℕ
  pub came : Carries source.gives reader bytes reader'
  pub well_read : source.failed reader' ≡ false
  pub all : Bool
  pub ended : all ≡ true → source.ended reader'
  pub rest : List ℕ
  pub are : (more : List ℕ) → (all ≡ true → more ≡ []) → AreGames (bytes ++ more) games (rest ++ more)

-- the writer took the export forms of these games
pub record WritesGames {W : Type 0} (sink : Sink W) (games : List Game) (old new : W) : Type 0 where
  pub writes : Carries sink.takes old (games_text games) new
  pub well_written : sink.failed new ≡ false

-- with the bytes that were at hand before
pub record WholeBefore (holds : List ℕ → Type 0) (hand : List ℕ) (pieces : List (List ℕ)) (games : List Game) : Type 0 where
  pub before : List (List ℕ)
  pub piece : List ℕ
  pub parts : pieces ≡ before ++ piece ∷ []
  pub first : List Game
  pub others : List Game
  pub split : games ≡ first ++ others
  pub left : List ℕ
  pub are : (more : List ℕ) → AreGames (hand ++ (joined before ++ more)) first (left ++ more)
  pub none : HasNoGameYet left
  pub still : others ≡ [] → holds left

abbrev pub HoldsWhole : (List ℕ → Type 0) → List ℕ → List (List ℕ) → List Game → Type 0
HoldsWhole holds hand pieces games = (pieces ≡ []) ⊎ WholeBefore holds hand pieces games

module _ {R W : Type 0} (source : Source R) (sink : Sink W) where
  pub record EndsWritten (reader reader' : R) (old new : W) : Type 0 where
    pub games : List Game
    pub reads : Collected source reader reader' games
    pub whole : HoldsWhole (λ _. ⊤) [] reads.came.pieces games
    pub written : WritesGames sink games old new

  pub record EndsWhole (reader reader' : R) (old new : W) : Type 0 where
    pub bytes : List ℕ
    pub came : Carries source.gives reader bytes reader'
    pub well_read : source.failed reader' ≡ false
    pub all : source.ended reader'
    pub games : List Game
    pub rest : List ℕ
    pub are : AreGames bytes games rest
    pub white : IsWhite rest
    pub written : WritesGames sink games old new

  pub record EndsAtFault (reader reader' : R) (old new : W) : Type 0 where
    pub games : List Game
    pub reads : Collected source reader reader' games
    pub needed : HoldsWhole EndsOpen [] reads.came.pieces games
    pub refused : (more : List ℕ) → (reads.all ≡ true → more ≡ []) → HasNoGame (reads.rest ++ more) × (IsWhite (reads.rest ++ more) → ⊥)
    pub written : WritesGames sink games old new

  -- The last read failed, or there were `most` reads.
  pub record EndsUnread (most : ℕ) (reader reader' : R) (old new : W) : Type 0 where
    pub pieces : List (List ℕ)
    pub before : R
    pub calls : Calls source.gives reader pieces before
    pub well_read : source.failed before ≡ false
    pub each : AllByRecursion (λ piece. 0 < length piece) pieces
    pub cause : (source.gives before [] reader' × (source.failed reader' ≡ true)) ⊎ ((before ≡ reader') × (length pieces ≡ most))
    pub games : List Game
    pub rest : List ℕ
    pub are : (more : List ℕ) → AreGames (joined pieces ++ more) games (rest ++ more)
    pub none : HasNoGameYet rest
    pub ends : EndsOpen rest
    pub written : WritesGames sink games old new

  pub record EndsInPart (reader reader' : R) (old new : W) : Type 0 where
    pub games : List Game
    pub reads : Collected source reader reader' games
    pub broken : Broken sink.takes sink.failed old (games_text games) new

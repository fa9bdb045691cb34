-- Games that are read and written one after another.
--   WritesOne   a game is written, or a prefix of it, or there is no memory for it
--   Reads       games are read, one after another, whatever comes next
--   SoFar       they are written as well
--   WritesAll   how the reading and writing ends
--   EndsBy      what a fault of the text ends it with
use Rattle.std.specs.Prelude.{◌≡◌, ◌≢◌, ◌⊎◌, true, List, [], ◌++◌, ℕ, ◌+◌, ◌≤◌, length, Result, Ok, Err}
use Rattle.byte_streams.specs.declared.source.Source.{Ghosts as Source}
use Rattle.byte_streams.specs.declared.sink.Sink.{Ghosts as Sink}
use Rattle.chess_items.specs.Coming.{AtHand, Came, unread}
use Rattle.chess_items.specs.declared.fault.FaultKind.TheVariants as lacks
use Rattle.chess_items.specs.declared.fault.PgnFault.{PgnFault}
use Rattle.chess_pgn.specs.Games.{Game}
use Rattle.chess_pgn.specs.Sources.{EndsOpen}
use Rattle.chess_cli.specs.Collections.{AreGames, EndsAtFault, EndsInPart, EndsUnread, EndsWhole, EndsWritten, HoldsWhole, WritesGames}
use Rattle.chess_loop.specs.RunEnds.{Broken, most_reads}
use Rattle.chess_loop.specs.steps.Sending.{Sent}
use Rattle.chess_cli.specs.declared.ended.Ended.{Ended}
use Rattle.chess_cli.specs.declared.ended.Ended.TheVariants.{Good, Input, ReadFault, WriteFault, Memory}

module _ {W : Type 0} (sink : Sink W) where
  abbrev pub WritesOne : {X : Type 0} → List ℕ → W → W → Result X Ended → Type 0
  WritesOne text old new (Ok x) = Sent sink.takes sink.failed old text [] new
  WritesOne text old new (Err Good) = ⊥
  WritesOne text old new (Err (Input fault)) = ⊥
  WritesOne text old new (Err ReadFault) = ⊥
  WritesOne text old new (Err WriteFault) = Broken sink.takes sink.failed old text new
  WritesOne text old new (Err Memory) = new ≡ old

-- games read so far, and what was read of the source for them
pub record Reads {R : Type 0} (source : Source R) (old new : AtHand R) (games : List Game) : Type 0 where
  pub bytes : List ℕ
  pub came : Came source.gives source.failed old bytes new
  pub are : (more : List ℕ) → (new.has_ended ≡ true → more ≡ []) → AreGames (unread old ++ (bytes ++ more)) games (unread new ++ more)
  pub whole : HoldsWhole EndsOpen (unread old) came.pieces games

module _ {R W : Type 0} (source : Source R) (sink : Sink W) where
  -- each game takes a byte, so there can't be more games than bytes
  pub record SoFar (count : ℕ) (start now : AtHand R) (old new : W) : Type 0 where
    pub games : List Game
    pub reads : Reads source start now games
    pub few : count + length (unread now) ≤ length (unread start) + length reads.bytes
    pub written : WritesGames sink games old new

  abbrev pub WritesAll : R → R → W → W → Ended → Type 0
  WritesAll reader reader' old new Good = EndsWhole source sink reader reader' old new
  WritesAll reader reader' old new (Input fault) = (fault.kind ≢ lacks.Memory) × EndsAtFault source sink reader reader' old new
  WritesAll reader reader' old new ReadFault = EndsUnread source sink most_reads reader reader' old new
  WritesAll reader reader' old new WriteFault = EndsInPart source sink reader reader' old new
  WritesAll reader reader' old new Memory = EndsWritten source sink reader reader' old new

-- what a fault of the text ends the run with
abbrev pub EndsBy : PgnFault → Ended → Type 0
EndsBy fault result = ((fault.kind ≡ lacks.Memory) × (result ≡ Memory)) ⊎ ((fault.kind ≢ lacks.Memory) × (result ≡ Input fault))

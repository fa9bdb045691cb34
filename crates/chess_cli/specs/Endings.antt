-- How a run of the board ends, one of a session, and one over a collection of games.
--   BoardEnds          the board's answers to the lines that were read are written, with at most `most` reads
--   session            what answers lines where a session does
--   TimedSessionEnds   so are a session's replies
--   CollectionEnds     so are the games that were read
--   ended_of           an end of the loop over lines, among these
use Rattle.std.specs.Prelude.{◌≡◌, ◌≢◌, ◌⊎◌, ℕ}
use Rattle.byte_streams.specs.declared.source.Source.{Ghosts as Source}
use Rattle.byte_streams.specs.declared.sink.Sink.{Ghosts as Sink}
use Rattle.chess_items.specs.declared.fault.FaultKind.TheVariants as lacks
use Rattle.chess_items.specs.declared.fault.PgnFault.{PgnFault}
use Rattle.chess_tree.specs.GameTree.{TreeParts}
use Rattle.chess_cli.specs.declared.ended.Ended.{Ended}
use Rattle.chess_cli.specs.declared.ended.Ended.TheVariants.{Good, Input, ReadFault, WriteFault, Memory}
use Rattle.chess_cli.specs.declared.uci_command.timed_session.TimedSession.{TimedSession}
use Rattle.chess_loop.specs.declared.driver.RunEnd.{RunEnd}
use Rattle.chess_loop.specs.declared.driver.RunEnd.TheVariants as loop
use Rattle.chess_cli.specs.Answers.{Answers, new_tree}
use Rattle.chess_cli.specs.Collections.{EndsAtFault, EndsInPart, EndsUnread, EndsWhole, EndsWritten}
use Rattle.chess_loop.specs.RunEnds.{EndsGood, EndsOver, EndsReadFault, EndsWriteFault, Handler, in_parts, in_texts, most_reads}
use Rattle.chess_cli.specs.TimedSessions.{Answered, AnsweredInPart, has_ended}

-- how the run over games ends, from how the loop ended
abbrev pub ended_of : RunEnd → Ended
ended_of loop.Good = Good
ended_of loop.ReadFault = ReadFault
ended_of loop.WriteFault = WriteFault
ended_of loop.Memory = Memory

-- a session that replies line by line until `quit`, from this state on, whose clock is read by this relation
abbrev pub session : {A C : Type 0} → (C → ℕ → C → Type 0) → TimedSession A C → Handler (TimedSession A C)
session reads first = in_parts (Answered reads) (AnsweredInPart reads) has_ended first

module _ {R W : Type 0} (source : Source R) (sink : Sink W) where
  pub record BoardEnds (most : ℕ) (result : Ended) (r r' : R) (w w' : W) : Type 0 where
    pub good : result ≡ Good → (state : TreeParts) × EndsGood (in_texts Answers new_tree) source sink state r r' w w'
    pub read_fault : result ≡ ReadFault → (state : TreeParts) × EndsReadFault (in_texts Answers new_tree) source sink most state r r' w w'
    pub write_fault : result ≡ WriteFault → (state : TreeParts) × EndsWriteFault (in_texts Answers new_tree) source sink state r r' w w'
    -- there was no memory to begin with
    pub memory : result ≡ Memory → (r' ≡ r) × (w' ≡ w)
    pub input : (fault : PgnFault) → result ≢ Input fault

  -- of a session from its first state to its last
  pub record TimedSessionEnds {A C : Type 0} (reads : C → ℕ → C → Type 0) (first last : TimedSession A C) (result : Ended) (r r' : R) (w w' : W) : Type 0 where
    pub good : result ≡ Good → EndsGood (session reads first) source sink last r r' w w' ⊎ EndsOver (session reads first) source sink last r r' w w'
    pub read_fault : result ≡ ReadFault → EndsReadFault (session reads first) source sink most_reads last r r' w w'
    pub write_fault : result ≡ WriteFault → EndsWriteFault (session reads first) source sink last r r' w w'
    pub memory : result ≡ Memory → (last ≡ first) × (r' ≡ r) × (w' ≡ w)
    pub input : (fault : PgnFault) → result ≢ Input fault

  pub record CollectionEnds (result : Ended) (r r' : R) (w w' : W) : Type 0 where
    pub good : result ≡ Good → EndsWhole source sink r r' w w'
    pub input : (fault : PgnFault) → result ≡ Input fault → (fault.kind ≢ lacks.Memory) × EndsAtFault source sink r r' w w'
    pub read_fault : result ≡ ReadFault → EndsUnread source sink most_reads r r' w w'
    pub write_fault : result ≡ WriteFault → EndsInPart source sink r r' w w'
    -- there was no memory for the next game, or for its text
    pub memory : result ≡ Memory → EndsWritten source sink r r' w w'

-- What is answered to a line of the input, and how a run over its lines ends.
--   kept          a line of at most 1,024 bytes
--   line_answer   what is written for a line
--   AnswersAlone  a line is answered by that text, whatever came before it
--   CountEnds     the answers to the lines that were read are written, in order, and nothing else; a call that fails is the last
use Rattle.std.specs.Prelude.{◌≡◌, ℕ, nat_le, if◌then◌else◌, List, [], ◌∷◌, ◌++◌, length, Option, Some, None, codes}
use Rattle.byte_streams.specs.declared.source.Source.{Ghosts as Source}
use Rattle.byte_streams.specs.declared.sink.Sink.{Ghosts as Sink}
use Rattle.chess_loop.specs.RunEnds.{EndsGood, EndsReadFault, EndsWriteFault, in_texts, most_reads}
use Rattle.chess_loop.specs.declared.driver.RunEnd.{RunEnd}
use Rattle.chess_loop.specs.declared.driver.RunEnd.TheVariants.{Good, ReadFault, WriteFault, Memory}
use Rattle.perft.specs.declared.counter.Counter.{Counter}
use Rattle.perft.specs.Answers.{answer}

-- a line of at most 1,024 bytes; of a longer one nothing is kept
abbrev pub kept : List ℕ → Option (List ℕ)
kept line = if nat_le (length line) 1024 then Some line else None

-- a line without words takes no answer, and no line feed
abbrev pub ended_by_feed : List ℕ → List ℕ
ended_by_feed [] = []
ended_by_feed (b ∷ bs) = (b ∷ bs) ++ 10 ∷ []

-- the answer to a line with its line feed; a line that is too long has its fault
abbrev pub line_answer : Option (List ℕ) → List ℕ
line_answer None = codes "fault LongLine" ++ 10 ∷ []
line_answer (Some line) = ended_by_feed (answer line)

-- the text of a line is its alone
abbrev pub AnswersAlone : {S : Type 0} → S → List ℕ → List ℕ → S → Type 0
AnswersAlone old line text new = (text ≡ line_answer (kept line)) × (new ≡ old)

module _ {R W : Type 0} (source : Source R) (sink : Sink W) where
  -- by whether the whole input was read, a read failed, a write did, or there was no memory to begin with
  pub record CountEnds (result : RunEnd) (r r' : R) (w w' : W) : Type 0 where
    pub good : result ≡ Good → (first last : Counter) × EndsGood (in_texts AnswersAlone first) source sink last r r' w w'
    pub read_fault : result ≡ ReadFault → (first last : Counter) × EndsReadFault (in_texts AnswersAlone first) source sink most_reads last r r' w w'
    pub write_fault : result ≡ WriteFault → (first last : Counter) × EndsWriteFault (in_texts AnswersAlone first) source sink last r r' w w'
    pub memory : result ≡ Memory → (r' ≡ r) × (w' ≡ w)

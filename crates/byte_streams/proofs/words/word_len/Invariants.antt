use Rattle.std.proofs.Common.{◌≡◌, ◌≤◌, ◌-◌, ◌++◌, length, take, drop}
use Rattle.byte_streams.specs.Words.{first_word, after_word}
use Rattle.byte_streams.proofs.words.word_len.Given as goal

abbrev pub invariant-loop-len : goal.invariant-loop-len
invariant-loop-len l = record {
  in_range : l.len ≤ length l.bytes;
  word : take l.len l.bytes ++ first_word l.gaps (drop l.len l.bytes) ≡ first_word l.gaps l.bytes;
  rest : after_word l.gaps (drop l.len l.bytes) ≡ after_word l.gaps l.bytes;
}

abbrev pub decreases-loop-len : goal.decreases-loop-len
decreases-loop-len l = length l.bytes - l.len

use Rattle.std.specs.Prelude.{◌≡◌, flat_map, string_bytes, take}
use Rattle.std.specs.Char.{encode_utf8}
use Rattle.arbiter.proofs.row.latin_1.Given as goal

-- the characters so far
abbrev pub invariant-loop-byte : goal.invariant-loop-byte
invariant-loop-byte l = record { written : string_bytes l.chars ≡ flat_map encode_utf8 (take l.byte-index l.text) }

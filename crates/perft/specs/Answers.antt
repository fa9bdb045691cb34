-- The answers to the lines `DEPTH FEN`.
--   separators     the bytes that separate words: space, tab and carriage return
--   written_depth  the depth that a word writes, 0 to 16
--   fault_line     `fault N NAME`
--   count_text     the number of leaves at the depth, at most 2^64 - 1, or the fault of the FEN
--   answer_for     the same, or the fault of the depth
--   answer_to      of the words `DEPTH FEN`
--   is_full        the word asks for every leaf to be made
--   answer         of a whole line, without its line feed; nothing for a line without words
use Rattle.std.specs.Prelude.{ℕ, ◌-◌, ◌^◌, min, Bool, if◌then◌else◌, List, [], ◌∷◌, ◌++◌, Option, Some, None, Result, Ok, Err, codes, decimal, bytes_eq}
use Rattle.std.specs.List.{find, range_with_len}
use Rattle.chess_types.specs.board.Position.{PositionParts}
use Rattle.byte_streams.specs.Words.{words, after_first_word, trimmed}
use Rattle.chess_fen.specs.declared.fault.FenFault.{FenFault}
use Rattle.chess_fen.specs.Faults.{fen_fault_number, fen_fault_name}
use Rattle.chess_fen.specs.Reading.{fen_reading}
use Rattle.perft.specs.Leaves.{leaves_of}

-- the bytes that separate words
abbrev pub separators : List ℕ
separators = 32 ∷ 9 ∷ 13 ∷ []

-- the number from 0 to 16 whose decimal digits the word is
unfoldable pub written_depth : List ℕ → Option ℕ
written_depth word = find (λ depth. bytes_eq (decimal depth) word) (range_with_len 0 17)

-- the answer to a line that asks for no count
abbrev pub fault_line : ℕ → List ℕ → List ℕ
fault_line number name = codes "fault " ++ decimal number ++ codes " " ++ name

-- the number of leaves, at most 2^64 - 1; or the FEN's fault
abbrev pub count_text : ℕ → Result PositionParts FenFault → List ℕ
count_text depth (Ok p) = decimal (min (leaves_of depth p) (2 ^ 64 - 1))
count_text depth (Err fault) = fault_line (fen_fault_number fault) (fen_fault_name fault)

-- the answer for a depth and a FEN
abbrev pub answer_for : Option ℕ → List ℕ → List ℕ
answer_for None fen = codes "fault Depth"
answer_for (Some depth) fen = count_text depth (fen_reading fen)

-- the first word is the depth, and what comes after it the FEN
abbrev pub answer_to : List (List ℕ) → List ℕ → List ℕ
answer_to [] fen = codes "fault Depth"
answer_to (word ∷ _) fen = answer_for (written_depth word) fen

-- the word `full`
abbrev pub is_full : List ℕ → Bool
is_full word = bytes_eq word (codes "full")

-- after the word `full`, which has every leaf made, the answer is the same
abbrev pub answer_by : List (List ℕ) → List ℕ → List ℕ
answer_by [] line = []
answer_by (word ∷ more) line =
    if is_full word
    then answer_to (words separators (after_first_word separators line)) (trimmed separators (after_first_word separators (after_first_word separators line)))
    else answer_to (word ∷ more) (trimmed separators (after_first_word separators line))

-- the answer to a line; nothing for a line without words
unfoldable pub answer : List ℕ → List ℕ
answer line = answer_by (words separators line) line

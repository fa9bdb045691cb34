-- Lines, their answers and the states between them, one after another. An answer is a list of parts: before a further part begins, all that comes
-- before it is written.
--   Runs        these lines may be answered by this text
--   InOne       a line may be answered by this text in one part
--   Whole       a line may be answered by this text, in whatever parts
--   unwritten   how many bytes at the end may be unwritten after an answer, where `before` were before it
--   Counted     a line may be answered by this text, with the numbers of bytes that may be unwritten before and after
--   AnyRest     these lines may be answered by this text, and any rest of it may be unwritten
--   Partly      these lines may be answered by this text, but that answering the last may have been broken off; this rest of the text may be unwritten
use Rattle.std.specs.Prelude.{◌≡◌, ℕ, ◌+◌, ◌≤◌, ◌⊎◌, List, [], ◌∷◌, ◌++◌, length}
use Rattle.byte_streams.specs.Calls.{joined}

-- A step takes a state and a line to a text and a state. One after another, steps may take these lines to this text.
abbrev pub Runs : {S : Type 0} → (S → List ℕ → List ℕ → S → Type 0) → S → List (List ℕ) → List ℕ → S → Type 0
Runs step old [] text new = (text ≡ []) × (new ≡ old)
Runs {S} step old (line ∷ lines) text new =
    (answer : List ℕ) × (others : List ℕ) × (mid : S) × step old line answer mid × Runs step mid lines others new × (text ≡ answer ++ others)

-- a line is answered in one text
abbrev pub InOne : {S : Type 0} → (S → List ℕ → List ℕ → S → Type 0) → S → List ℕ → List (List ℕ) → S → Type 0
InOne step old line parts new = (text : List ℕ) × step old line text new × (parts ≡ text ∷ [])

-- the text is all parts of the answer to a line
abbrev pub Whole : {S : Type 0} → (S → List ℕ → List (List ℕ) → S → Type 0) → S → List ℕ → List ℕ → S → Type 0
Whole step old line text new = (parts : List (List ℕ)) × step old line parts new × (text ≡ joined parts)

-- the length of the last of some parts, where one of this length comes before them
abbrev pub last_length : ℕ → List (List ℕ) → ℕ
last_length n [] = n
last_length n (part ∷ parts) = last_length (length part) parts

-- the last part may be; where there is one alone, so may what comes before it
abbrev pub unwritten : ℕ → List (List ℕ) → ℕ
unwritten before [] = before
unwritten before (part ∷ parts) = last_length (before + length part) parts

-- a line is answered, and counted
abbrev pub Counted : {S : Type 0} → (S → List ℕ → List (List ℕ) → S → Type 0) → S × ℕ → List ℕ → List ℕ → S × ℕ → Type 0
Counted step old line text new = (parts : List (List ℕ)) × step old.0 line parts new.0 × (text ≡ joined parts) × (new.1 ≡ unwritten old.1 parts)

-- lines are answered, whatever bytes follow them
abbrev pub AnyRest : {S : Type 0} → (S → List (List ℕ) → List ℕ → S → Type 0) → S → List (List ℕ) → List ℕ → List ℕ → S → Type 0
AnyRest runs old lines text rest new = runs old lines text new

-- answering the last of the lines was broken off
pub record BrokenOff {S : Type 0} (step cut : S → List ℕ → List (List ℕ) → S → Type 0) (old : S) (lines : List (List ℕ)) (text : List ℕ) (new : S × ℕ) : Type 0 where
  pub done : List (List ℕ)
  pub line : List ℕ
  pub answers : List ℕ
  pub begun : List ℕ
  pub state : S × ℕ
  pub runs : Runs (Counted step) (old, 0) done answers state
  pub last : Counted cut state line begun new
  pub lines_are : lines ≡ done ++ line ∷ []
  pub text_is : text ≡ answers ++ begun

-- of the last of these lines the answer may be broken off
abbrev pub Partly : {S : Type 0} → (S → List ℕ → List (List ℕ) → S → Type 0) → (S → List ℕ → List (List ℕ) → S → Type 0) → S → List (List ℕ) → List ℕ → List ℕ → S → Type 0
Partly step cut old lines text rest new =
    (most : ℕ) × (length rest ≤ most) × (Runs (Counted step) (old, 0) lines text (new, most) ⊎ BrokenOff step cut old lines text (new, most))

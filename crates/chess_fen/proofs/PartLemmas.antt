-- The parts of a text are read back where no part has the byte that parts them.
use Rattle.std.proofs.Common.{◌≡◌, ℕ, ◌<◌, ◌≤◌, ◌==◌, false, ◌||◌, List, [], ◌∷◌, ◌++◌, length, refl, sym, ap, ◌∙◌, append-nil, append_assoc, arith}
use Rattle.std.specs.List.{AllByRecursion, join_with_byte, slice_split}
use Rattle.std.proofs.lemmas.Bool.Decides.{nat_tests}
use Rattle.std.proofs.lemmas.List.Elements.{All-from_recursion}
use Rattle.std.proofs.lemmas.List.Splits.{slice_split_none, slice_split_at}
use Rattle.byte_streams.specs.Words.{as_word, words, words_from}
use Rattle.byte_streams.proofs.WordLemmas.{word_of-some}

-- each byte is greater
abbrev pub Above : ℕ → List ℕ → Type 0
Above n bytes = AllByRecursion (λ b. n < b) bytes

pub Above-append : (n : ℕ) (a b : List ℕ) → Above n a → Above n b → Above n (a ++ b)
Above-append n [] b high more = more
Above-append n (x ∷ xs) b high more = (high.0, Above-append n xs b high.1 more)

pub Above-less : (m n : ℕ) (bytes : List ℕ) → m ≤ n → Above n bytes → Above m bytes
Above-less m n [] less high = tt
Above-less m n (b ∷ bs) less high = (omega (arith, high.0), Above-less m n bs less high.1)

pub Above-joined : (n c : ℕ) (parts : List (List ℕ)) → n < c → AllByRecursion (Above n) parts → Above n (join_with_byte c parts)
Above-joined n c [] high all = tt
Above-joined n c (part ∷ []) high all = all.0
Above-joined n c (part ∷ next ∷ parts) high all = Above-append n part (c ∷ join_with_byte c (next ∷ parts)) all.0 (high, Above-joined n c (next ∷ parts) high all.1)

-- the words that a space parts
words_from-last : (word begun : List ℕ) → Above 32 word → words_from (32 ∷ []) begun word ≡ as_word (begun ++ word)
words_from-last [] begun high = ap as_word (sym (append-nil begun))
words_from-last (b ∷ bs) begun high =
    let above : 32 < b = high.0 in
    let plain : ((32 == b) || false) ≡ false = grind (arith, nat_tests) in
    rw plain (words_from-last bs (begun ++ b ∷ []) high.1 ∙ ap as_word (append_assoc begun (b ∷ []) bs))

words_from-next : (word begun rest : List ℕ) → Above 32 word → words_from (32 ∷ []) begun (word ++ 32 ∷ rest) ≡ as_word (begun ++ word) ++ words (32 ∷ []) rest
words_from-next [] begun rest high = ap (λ w. as_word w ++ words (32 ∷ []) rest) (sym (append-nil begun))
words_from-next (b ∷ bs) begun rest high =
    let above : 32 < b = high.0 in
    let plain : ((32 == b) || false) ≡ false = grind (arith, nat_tests) in
    rw plain (words_from-next bs (begun ++ b ∷ []) rest high.1 ∙ ap (λ w. as_word w ++ words (32 ∷ []) rest) (append_assoc begun (b ∷ []) bs))

-- a byte or more, none of them a space
abbrev pub IsWord : List ℕ → Type 0
IsWord text = (0 < length text) × Above 32 text

pub words-joined : (texts : List (List ℕ)) → AllByRecursion IsWord texts → words (32 ∷ []) (join_with_byte 32 texts) ≡ texts
words-joined [] all = refl
words-joined (text ∷ []) all = words_from-last text [] all.0.1 ∙ word_of-some text all.0.0
words-joined (text ∷ next ∷ texts) all =
    let others = words-joined (next ∷ texts) all.1 in
    words_from-next text [] (join_with_byte 32 (next ∷ texts)) all.0.1 ∙ rw (word_of-some text all.0.0, others) refl

-- the parts between slashes
no_slash : (bytes : List ℕ) → Above 47 bytes → AllByRecursion (λ b. (b == 47) ≡ false) bytes
no_slash [] high = tt
no_slash (b ∷ bs) high =
    let above : 47 < b = high.0 in
    (grind (arith, nat_tests), no_slash bs high.1)

pub slice_split-joined : (first : List ℕ) (others : List (List ℕ)) → AllByRecursion (Above 47) (first ∷ others) →
    slice_split (λ b. b == 47) (join_with_byte 47 (first ∷ others)) ≡ first ∷ others
slice_split-joined first [] all =
    slice_split_none (λ (b : ℕ). b == 47) first (All-from_recursion (λ b. (b == 47) ≡ false) first (no_slash first all.0))
slice_split-joined first (second ∷ others) all =
    slice_split_at (λ (b : ℕ). b == 47) first 47 (join_with_byte 47 (second ∷ others)) (All-from_recursion (λ b. (b == 47) ≡ false) first (no_slash first all.0)) refl
    ∙ ap (λ parts. first ∷ parts) (slice_split-joined second others all.1)

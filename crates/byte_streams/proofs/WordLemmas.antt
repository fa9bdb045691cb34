-- What the definitions of words have to do with one another.
use Rattle.std.proofs.Common.{◌≡◌, ℕ, ◌<◌, List, [], ◌∷◌, ◌++◌, length, refl, ap, sym, ◌∙◌, arith}
use Rattle.std.proofs.lemmas.Grind.{common_steps}
use Rattle.byte_streams.specs.Words.{as_word, words, words_from, skip_gaps, first_word, after_word}

pub words-skip_gaps : (gaps xs : List ℕ) → words gaps (skip_gaps gaps xs) ≡ words gaps xs
words-skip_gaps gaps [] = refl
words-skip_gaps gaps (b ∷ bs) = let again = words-skip_gaps gaps bs in grind (arith, common_steps, again)

pub words_from-first : (gaps begun xs : List ℕ) →
    words_from gaps begun xs ≡ as_word (begun ++ first_word gaps xs) ++ words gaps (after_word gaps xs)
words_from-first gaps begun [] = grind (arith, common_steps)
words_from-first gaps begun (b ∷ bs) =
    let again = words_from-first gaps (begun ++ b ∷ []) bs in grind (arith, common_steps, again)

-- after the gaps comes a word
pub word_of-skipped : (gaps xs : List ℕ) → 0 < length (skip_gaps gaps xs) →
    as_word (first_word gaps (skip_gaps gaps xs)) ≡ first_word gaps (skip_gaps gaps xs) ∷ []
word_of-skipped gaps [] h = absurd (omega arith)
word_of-skipped gaps (b ∷ bs) h = let again = word_of-skipped gaps bs in grind (arith, common_steps, again)

pub no_words : (gaps xs rest : List ℕ) → rest ≡ skip_gaps gaps xs → length rest ≡ 0 → words gaps xs ≡ []
no_words gaps xs [] e h = sym (words-skip_gaps gaps xs) ∙ ap (words gaps) (sym e)
no_words gaps xs (b ∷ bs) e h = absurd (omega arith)

pub words_split : (gaps xs rest : List ℕ) → rest ≡ skip_gaps gaps xs → 0 < length rest →
    words gaps xs ≡ first_word gaps rest ∷ words gaps (after_word gaps rest)
words_split gaps xs rest e h =
    let some : 0 < length (skip_gaps gaps xs) = rw (← e) h in
    let one : as_word (first_word gaps rest) ≡ first_word gaps rest ∷ [] = rw e (word_of-skipped gaps xs some) in
    let all : words gaps rest ≡ as_word (first_word gaps rest) ++ words gaps (after_word gaps rest) = words_from-first gaps [] rest in
    let same : words gaps rest ≡ words gaps xs = rw e (words-skip_gaps gaps xs) in
    sym same ∙ all ∙ rw one refl

pub word_of-some : (word : List ℕ) → 0 < length word → as_word word ≡ word ∷ []
word_of-some [] some = absurd (omega arith)
word_of-some (b ∷ bs) some = refl

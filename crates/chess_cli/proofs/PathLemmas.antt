-- Paths that are read part by part.
use Rattle.std.proofs.Common.{◌≡◌, ℕ, zero, suc, ◌+◌, ◌-◌, ◌<◌, ◌≤◌, ◌==◌, Bool, true, false, List, [], ◌∷◌, ◌++◌, length, take, drop, get_or, Option, Some, None, refl, sym, ap, subst, ◌∙◌, append-nil, append_assoc, if◌then◌else◌, arith}
use Rattle.std.specs.Prelude.{option_map, option_and_then, bytes_eq, codes}
use Rattle.std.proofs.Math.ListN.{drop_of_length-le}
use Rattle.std.proofs.lemmas.List.{length-drop, take-append-drop}
use Rattle.std.proofs.lemmas.List.Splits.{slice_split-cons_yes, slice_split-cons_no}
use Rattle.std.specs.List.{onto_first}
use Rattle.memchr.specs.Find.{IsFirstByte, is_byte}
use Rattle.chess_cli.specs.Numbers.{number_in, numbers_in, path_in}
use Rattle.chess_cli.specs.steps.Replies.{parts_left, parts_of}

some_own : (xs ys : List ℕ) → Some xs ≡ Some ys → xs ≡ ys
some_own xs ys e = cc e

pub take-whole : (n : ℕ) (xs : List ℕ) → length xs ≤ n → take n xs ≡ xs
take-whole n xs few = sym (append-nil (take n xs)) ∙ ap (λ (ys : List ℕ). take n xs ++ ys) (sym (drop_of_length-le xs few)) ∙ take-append-drop n xs

-- ---- the parts of a word

not_true : (b : Bool) → (b ≡ true → ⊥) → b ≡ false
not_true true h = absurd (h refl)
not_true false h = refl

-- the first part ends at the first period
cut_first : (xs : List ℕ) (at : ℕ) → at < length xs → (get_or xs at 0 == 46) ≡ true → ((k : ℕ) → k < at → (get_or xs k 0 == 46) ≡ true → ⊥)
    → parts_of xs ≡ take at xs ∷ parts_of (drop (at + 1) xs)
cut_first [] at within hit before = absurd (omega (arith, within))
cut_first (x ∷ xs) zero within hit before = slice_split-cons_yes (λ b. b == 46) x xs hit
cut_first (x ∷ xs) (suc at) within hit before =
    let on : suc at + 1 ≡ suc (at + 1) = omega arith in
    slice_split-cons_no (λ b. b == 46) x xs (not_true (x == 46) (before 0 (omega arith)))
    ∙ ap (onto_first x) (cut_first xs at (omega (arith, within)) hit (λ k lt. before (suc k) (omega (arith, lt))))
    ∙ ap (λ (n : ℕ). (x ∷ take at xs) ∷ parts_of (drop n (x ∷ xs))) (sym on)

pub cut_at : (word : List ℕ) (at : ℕ) → IsFirstByte (is_byte 46) word (Some at) → parts_of word ≡ take at word ∷ parts_of (take (length word - (at + 1)) (drop (at + 1) word))
cut_at word at first =
    let inside : at < length word = first.0.high in
    cut_first word at inside first.1 (λ k lt. first.0.before k (omega arith) lt)
    ∙ ap (λ (rest : List ℕ). take at word ∷ parts_of rest) (sym (take-whole (length word - (at + 1)) (drop (at + 1) word) (omega (arith, length-drop (at + 1) word))))

-- without a period there is one
pub cut_none : (word : List ℕ) → IsFirstByte (is_byte 46) word None → parts_of word ≡ word ∷ []
cut_none [] none = refl
cut_none (x ∷ xs) none =
    slice_split-cons_no (λ b. b == 46) x xs (not_true (x == 46) (none 0 (omega arith) (omega arith)))
    ∙ ap (onto_first x) (cut_none xs (λ k low high. none (suc k) (omega arith) (omega (arith, high))))

-- What is read of the parts so far, and what is still to be read, are the numbers of them all.
abbrev pub ReadSoFar : List ℕ → Option (List ℕ) → List ℕ → Type 0
ReadSoFar word rest seen = numbers_in (parts_of word) ≡ option_map (λ ns. seen ++ ns) (numbers_in (parts_left rest))

pub read_none : (word : List ℕ) → ReadSoFar word (Some word) []
read_none word = by (numbers_in (parts_of word))
  where
    by : (all : Option (List ℕ)) → all ≡ option_map (λ ns. [] ++ ns) all
    by None = refl
    by (Some ns) = refl

-- the next part is no number
pub read_bad : (word part : List ℕ) (rest others : Option (List ℕ)) (seen : List ℕ) → ReadSoFar word rest seen → parts_left rest ≡ part ∷ parts_left others → number_in part ≡ None
    → numbers_in (parts_of word) ≡ None
read_bad word part rest others seen so cuts bad =
    so ∙ ap (λ (ps : List (List ℕ)). option_map (λ ns. seen ++ ns) (numbers_in ps)) cuts
    ∙ ap (λ (n : Option ℕ). option_map (λ ns. seen ++ ns) (option_and_then (λ m. option_map (λ ns. m ∷ ns) (numbers_in (parts_left others))) n)) bad

-- it is one
pub read_on : (word part : List ℕ) (rest others : Option (List ℕ)) (seen : List ℕ) (place : ℕ) → ReadSoFar word rest seen → parts_left rest ≡ part ∷ parts_left others
    → number_in part ≡ Some place → ReadSoFar word others (seen ++ place ∷ [])
read_on word part rest others seen place so cuts one =
    so ∙ ap (λ (ps : List (List ℕ)). option_map (λ ns. seen ++ ns) (numbers_in ps)) cuts
    ∙ ap (λ (n : Option ℕ). option_map (λ ns. seen ++ ns) (option_and_then (λ m. option_map (λ ns. m ∷ ns) (numbers_in (parts_left others))) n)) one
    ∙ by (numbers_in (parts_left others))
  where
    by : (all : Option (List ℕ)) → option_map (λ ns. seen ++ ns) (option_map (λ ns. place ∷ ns) all) ≡ option_map (λ ns. (seen ++ place ∷ []) ++ ns) all
    by None = refl
    by (Some ns) = ap (λ (ms : List ℕ). Some ms) (sym (append_assoc seen (place ∷ []) ns))

-- all are read
pub read_all : (word : List ℕ) (rest : Option (List ℕ)) (seen : List ℕ) → rest ≡ None → ReadSoFar word rest seen → numbers_in (parts_of word) ≡ Some seen
read_all word rest seen none so = so ∙ ap (λ (r : Option (List ℕ)). option_map (λ ns. seen ++ ns) (numbers_in (parts_left r))) none ∙ ap (λ (ns : List ℕ). Some ns) (append-nil seen)

-- where they are all numbers, so is the next one, and it comes next in the path
pub read_next : (word part path : List ℕ) (rest others : Option (List ℕ)) (seen : List ℕ) (place : ℕ) → numbers_in (parts_of word) ≡ Some path → ReadSoFar word rest seen
    → parts_left rest ≡ part ∷ parts_left others → number_in part ≡ Some place → (ns : List ℕ) × (path ≡ seen ++ place ∷ ns)
read_next word part path rest others seen place all so cuts one = by (numbers_in (parts_left others)) (sym all ∙ read_on word part rest others seen place so cuts one)
  where
    by : (more : Option (List ℕ)) → Some path ≡ option_map (λ ns. (seen ++ place ∷ []) ++ ns) more → (ns : List ℕ) × (path ≡ seen ++ place ∷ ns)
    by None e = absurd (cc e)
    by (Some ns) e = (ns, some_own path ((seen ++ place ∷ []) ++ ns) e ∙ append_assoc seen (place ∷ []) ns)

pub path_in-root : (word path : List ℕ) → bytes_eq word (codes "-") ≡ true → path ≡ [] → path_in word ≡ Some path
unfolding path_in
path_in-root word path is none = rw (is, none) refl

pub path_in-parts : (word : List ℕ) (parts : List (List ℕ)) (seen : List ℕ) → bytes_eq word (codes "-") ≡ false → parts ≡ parts_of word → numbers_in parts ≡ Some seen → path_in word ≡ Some seen
unfolding path_in
path_in-parts word parts seen is all read = rw (is, ← all) read

pub path_in-bad : (word : List ℕ) → bytes_eq word (codes "-") ≡ false → numbers_in (parts_of word) ≡ None → path_in word ≡ None
unfolding path_in
path_in-bad word is bad = rw is bad

-- a path that such a word writes is the numbers of its parts
pub parts_are : (word path : List ℕ) → bytes_eq word (codes "-") ≡ false → path_in word ≡ Some path → numbers_in (parts_of word) ≡ Some path
unfolding path_in
parts_are word path is read = subst (λ (b : Bool). (if b then Some [] else numbers_in (parts_of word)) ≡ Some path) is read

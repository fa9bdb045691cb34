-- Texts with letters written as the standard's.
use Rattle.std.proofs.Common.{◌≡◌, inl, ℕ, ◌<◌, List, [], ◌∷◌, ◌++◌, length, Option, Some, None, refl, subst, arith, append-nil}
use Rattle.chess_repair.specs.Letters.{IsInLetters, IsRespelled, IsRespelledAfter, after_byte}
use Rattle.chess_repair.specs.declared.letters.Letters.{Letters}
use Rattle.chess_repair.specs.declared.standing.Standing.{Standing}
use Rattle.chess_repair.specs.declared.standing.Standing.TheVariants as place

-- a text is spelled as it is
respelled_same : (l : Letters) (s : Standing) (text : List ℕ) → IsRespelledAfter l s text text
respelled_same l s [] = tt
respelled_same l s (b ∷ text) = (inl refl, respelled_same l (after_byte s b) text)

pub in_letters_same : (letters : Option Letters) (text : List ℕ) → IsInLetters letters text text
in_letters_same None text = refl
in_letters_same (Some l) text = respelled_same l place.Line text

-- no byte more, and none less
same_length : (l : Letters) (s : Standing) (text spelt : List ℕ) → IsRespelledAfter l s text spelt → length spelt ≡ length text
same_length l s [] [] r = refl
same_length l s [] (c ∷ spelt) r = absurd r
same_length l s (b ∷ text) [] r = absurd r
same_length l s (b ∷ text) (c ∷ spelt) r = omega (arith, same_length l (after_byte s b) text spelt r.1)

pub respelled_length : (l : Letters) (text spelt : List ℕ) → IsRespelled l text spelt → length spelt ≡ length text
respelled_length l text spelt r = same_length l place.Line text spelt r

-- a text is spelled up to a rest of it: with that, however it is spelled
abbrev pub IsSpeltTo : Letters → List ℕ → List ℕ → Standing → List ℕ → Type 0
IsSpeltTo l text spelt s rest = (end : List ℕ) → IsRespelledAfter l s rest end → IsRespelled l text (spelt ++ end)

-- all of it
pub spelt_whole : (l : Letters) (text spelt rest : List ℕ) (s : Standing) → IsSpeltTo l text spelt s rest → length rest < 1 → IsRespelled l text spelt
spelt_whole l text spelt [] s r none = subst (λ (z : List ℕ). IsRespelled l text z) (append-nil spelt) (r [] tt)
spelt_whole l text spelt (b ∷ rest) s r none = absurd (let no : ⊥ = omega (arith, none) in no)

-- Comments that stand one after another, each after a space, are joined when they are normalised.
use Rattle.std.proofs.Common.{◌≡◌, ℕ, ◌<◌, Bool, true, false, List, [], ◌∷◌, ◌++◌, length, refl, sym, ap, ◌∙◌, arith, append_assoc}
use Rattle.std.specs.Prelude.{if◌then◌else◌}
use Rattle.std.specs.List.{AllByRecursion, join_with_byte}
use Rattle.std.proofs.lemmas.List.{append-nil}
use Rattle.byte_streams.specs.Words.{is_gap, as_word, words, words_from}
use Rattle.chess_tree.specs.Comments.{blanks, normalised}
use Rattle.chess_pgn.specs.Grammar.{comments_joined}
use Rattle.chess_pgn.specs.steps.Readings.{IsSpaced}

pub normalised_none : normalised [] ≡ []
unfolding normalised
normalised_none = refl

-- a gap parts two texts
parted : (gaps begun a b : List ℕ) (gap : ℕ) → is_gap gaps gap ≡ true → words_from gaps begun (a ++ gap ∷ b) ≡ words_from gaps begun a ++ words gaps b
parted gaps begun [] b gap is = ap (λ (r : Bool). if r then as_word begun ++ words_from gaps [] b else words_from gaps (begun ++ gap ∷ []) b) is
parted gaps begun (x ∷ a) b gap is = step (is_gap gaps x) (parted gaps [] a b gap is) (parted gaps (begun ++ x ∷ []) a b gap is)
  where
    step : (r : Bool) → words_from gaps [] (a ++ gap ∷ b) ≡ words_from gaps [] a ++ words gaps b
        → words_from gaps (begun ++ x ∷ []) (a ++ gap ∷ b) ≡ words_from gaps (begun ++ x ∷ []) a ++ words gaps b
        → (if r then as_word begun ++ words_from gaps [] (a ++ gap ∷ b) else words_from gaps (begun ++ x ∷ []) (a ++ gap ∷ b))
        ≡ (if r then as_word begun ++ words_from gaps [] a else words_from gaps (begun ++ x ∷ []) a) ++ words gaps b
    step true h k = ap (λ (z : List (List ℕ)). as_word begun ++ z) h ∙ sym (append_assoc (as_word begun) (words_from gaps [] a) (words gaps b))
    step false h k = k

IsSome : List ℕ → Type 0
IsSome w = 0 < length w

somes : (a b : List (List ℕ)) → AllByRecursion IsSome a → AllByRecursion IsSome b → AllByRecursion IsSome (a ++ b)
somes [] b h k = k
somes (x ∷ a) b h k = (h.0, somes a b h.1 k)

as_some : (w : List ℕ) → AllByRecursion IsSome (as_word w)
unfolding IsSome
as_some [] = tt
as_some (b ∷ w) = (omega arith, tt)

some_words : (gaps begun a : List ℕ) → AllByRecursion IsSome (words_from gaps begun a)
some_words gaps begun [] = as_some begun
some_words gaps begun (x ∷ a) = step (is_gap gaps x) (some_words gaps [] a) (some_words gaps (begun ++ x ∷ []) a)
  where
    step : (r : Bool) → AllByRecursion IsSome (words_from gaps [] a) → AllByRecursion IsSome (words_from gaps (begun ++ x ∷ []) a)
        → AllByRecursion IsSome (if r then as_word begun ++ words_from gaps [] a else words_from gaps (begun ++ x ∷ []) a)
    step true h k = somes (as_word begun) (words_from gaps [] a) (as_some begun) h
    step false h k = k

join_two : (a b : List (List ℕ)) → AllByRecursion IsSome a → AllByRecursion IsSome b → join_with_byte 32 (a ++ b) ≡ comments_joined (join_with_byte 32 a) (join_with_byte 32 b)
unfolding IsSome
join_two [] b h k = refl
join_two ([] ∷ a) b h k = absurd (omega (arith, h.0))
join_two ((x ∷ w) ∷ []) [] h k = refl
join_two ((x ∷ w) ∷ []) ([] ∷ b) h k = absurd (omega (arith, k.0))
join_two ((x ∷ w) ∷ []) ((y ∷ v) ∷ []) h k = refl
join_two ((x ∷ w) ∷ []) ((y ∷ v) ∷ u ∷ b) h k = refl
join_two ((x ∷ w) ∷ ([] ∷ a)) b h k = absurd (omega (arith, h.1.0))
join_two ((x ∷ w) ∷ (z ∷ v) ∷ a) b h k =
    ap (λ (t : List ℕ). (x ∷ w) ++ 32 ∷ t) (join_two ((z ∷ v) ∷ a) b h.1 k) ∙ behind (join_with_byte 32 ((z ∷ v) ∷ a)) (join_with_byte 32 b) (first_some z v a)
  where
    first_some : (z : ℕ) (v : List ℕ) (a : List (List ℕ)) → 0 < length (join_with_byte 32 ((z ∷ v) ∷ a))
    first_some z v [] = omega arith
    first_some z v (u ∷ a) = omega arith

    behind : (s t : List ℕ) → 0 < length s → (x ∷ w) ++ 32 ∷ comments_joined s t ≡ comments_joined ((x ∷ w) ++ 32 ∷ s) t
    behind [] t h = absurd (omega (arith, h))
    behind (c ∷ s) [] h = refl
    behind (c ∷ s) (d ∷ t) h = sym (append_assoc (x ∷ w) (32 ∷ c ∷ s) (32 ∷ d ∷ t))

pub normalised_separated : (a b : List ℕ) → normalised (a ++ 32 ∷ b) ≡ comments_joined (normalised a) (normalised b)
unfolding normalised
normalised_separated a b = ap (join_with_byte 32) (parted blanks [] a b 32 refl) ∙ join_two (words blanks a) (words blanks b) (some_words blanks [] a) (some_words blanks [] b)

pub normalised_space : (b : List ℕ) → normalised (32 ∷ b) ≡ normalised b
unfolding normalised
normalised_space b = refl

joined_none : (a : List ℕ) → comments_joined a [] ≡ a
joined_none [] = refl
joined_none (x ∷ a) = refl

-- after another, a text that begins with a space, if it isn't empty
pub normalised_append : (a b : List ℕ) → IsSpaced b → normalised (a ++ b) ≡ comments_joined (normalised a) (normalised b)
unfolding normalised
normalised_append a [] h = ap normalised (append-nil a) ∙ sym (joined_none (normalised a))
normalised_append a (x ∷ b) h =
    ap (λ (y : ℕ). normalised (a ++ y ∷ b)) h ∙ normalised_separated a b ∙ ap (comments_joined (normalised a)) (sym (normalised_space b) ∙ ap (λ (y : ℕ). normalised (y ∷ b)) (sym h))

pub spaced_append : (a b : List ℕ) → IsSpaced a → IsSpaced b → IsSpaced (a ++ b)
spaced_append [] b h k = k
spaced_append (x ∷ a) b h k = h

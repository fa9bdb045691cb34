-- A comment that is built word by word; a normalised comment stays what it is.
use Rattle.std.proofs.Common.{◌≡◌, ℕ, ◌<◌, ◌==◌, ◌||◌, Bool, true, false, List, [], ◌∷◌, ◌++◌, length, refl, sym, subst, ap, ◌∙◌, arith, append_assoc, append-nil}
use Rattle.std.proofs.lemmas.Bool.{false≢true}
use Rattle.std.specs.Prelude.{if◌then◌else◌}
use Rattle.std.specs.List.{AllByRecursion, join_with_byte}
use Rattle.byte_streams.specs.Words.{is_gap, as_word, words, words_from}
use Rattle.byte_streams.proofs.WordLemmas.{word_of-some}
use Rattle.chess_tree.specs.Comments.{IsComment, blanks, has_brace, normalised, with_next_word}

-- ---- bytes of a list, each with a property

module _ (P : ℕ → Type 0) where
  all_append : (a b : List ℕ) → AllByRecursion P a → AllByRecursion P b → AllByRecursion P (a ++ b)
  all_append [] b all more = more
  all_append (x ∷ a) b all more = (all.0, all_append a b all.1 more)

  all_lists : (a b : List (List ℕ)) → AllByRecursion (AllByRecursion P) a → AllByRecursion (AllByRecursion P) b
      → AllByRecursion (AllByRecursion P) (a ++ b)
  all_lists [] b all more = more
  all_lists (x ∷ a) b all more = (all.0, all_lists a b all.1 more)

  all_word : (word : List ℕ) → AllByRecursion P word → AllByRecursion (AllByRecursion P) (as_word word)
  all_word [] all = tt
  all_word (b ∷ bs) all = (all, tt)

  -- what is true of each byte of a text is true of each byte of its words
  all_words : (gaps begun text : List ℕ) → AllByRecursion P begun → AllByRecursion P text
      → AllByRecursion (AllByRecursion P) (words_from gaps begun text)
  all_words gaps begun [] before all = all_word begun before
  all_words gaps begun (b ∷ bs) before all =
      elim (is_gap gaps b) as (λ r. AllByRecursion (AllByRecursion P) (if r then as_word begun ++ words_from gaps [] bs else words_from gaps (begun ++ b ∷ []) bs)) [
        | true ↦ all_lists (as_word begun) (words_from gaps [] bs) (all_word begun before) (all_words gaps [] bs tt all.1)
        | false ↦ all_words gaps (begun ++ b ∷ []) bs (all_append begun (b ∷ []) before (all.0, tt)) all.1
      ]

  all_joined : (ws : List (List ℕ)) → P 32 → AllByRecursion (AllByRecursion P) ws → AllByRecursion P (join_with_byte 32 ws)
  all_joined [] space all = tt
  all_joined (w ∷ []) space all = all.0
  all_joined (w ∷ v ∷ ws) space all = all_append w (32 ∷ join_with_byte 32 (v ∷ ws)) all.0 (space, all_joined (v ∷ ws) space all.1)

-- ---- words that are joined are the words again

-- a byte or more, none of them a gap
abbrev IsWord : List ℕ → List ℕ → Type 0
IsWord gaps word = (0 < length word) × AllByRecursion (λ b. is_gap gaps b ≡ false) word

word_is : (gaps word : List ℕ) → AllByRecursion (λ b. is_gap gaps b ≡ false) word → AllByRecursion (IsWord gaps) (as_word word)
word_is gaps [] all = tt
word_is gaps (b ∷ bs) all = ((omega arith, all), tt)

words_append : (gaps : List ℕ) (a b : List (List ℕ)) → AllByRecursion (IsWord gaps) a → AllByRecursion (IsWord gaps) b
    → AllByRecursion (IsWord gaps) (a ++ b)
words_append gaps [] b all more = more
words_append gaps (x ∷ a) b all more = (all.0, words_append gaps a b all.1 more)

are_words : (gaps begun text : List ℕ) → AllByRecursion (λ b. is_gap gaps b ≡ false) begun → AllByRecursion (IsWord gaps) (words_from gaps begun text)
are_words gaps begun [] before = word_is gaps begun before
are_words gaps begun (b ∷ bs) before =
    elim (is_gap gaps b) as (λ r. is_gap gaps b ≡ r → AllByRecursion (IsWord gaps) (if r then as_word begun ++ words_from gaps [] bs else words_from gaps (begun ++ b ∷ []) bs)) [
      | true ↦ λ _. words_append gaps (as_word begun) (words_from gaps [] bs) (word_is gaps begun before) (are_words gaps [] bs tt)
      | false ↦ λ e. are_words gaps (begun ++ b ∷ []) bs (all_append (λ x. is_gap gaps x ≡ false) begun (b ∷ []) before (e, tt))
    ] refl

from_last : (gaps word begun : List ℕ) → AllByRecursion (λ b. is_gap gaps b ≡ false) word → words_from gaps begun word ≡ as_word (begun ++ word)
from_last gaps [] begun all = ap as_word (sym (append-nil begun))
from_last gaps (b ∷ bs) begun all =
    ap (λ (r : Bool). if r then as_word begun ++ words_from gaps [] bs else words_from gaps (begun ++ b ∷ []) bs) all.0
    ∙ from_last gaps bs (begun ++ b ∷ []) all.1
    ∙ ap as_word (append_assoc begun (b ∷ []) bs)

from_next : (gaps word begun rest : List ℕ) (gap : ℕ) → is_gap gaps gap ≡ true → AllByRecursion (λ b. is_gap gaps b ≡ false) word
    → words_from gaps begun (word ++ gap ∷ rest) ≡ as_word (begun ++ word) ++ words gaps rest
from_next gaps [] begun rest gap is all =
    ap (λ (r : Bool). if r then as_word begun ++ words_from gaps [] rest else words_from gaps (begun ++ gap ∷ []) rest) is
    ∙ ap (λ (w : List ℕ). as_word w ++ words gaps rest) (sym (append-nil begun))
from_next gaps (b ∷ bs) begun rest gap is all =
    ap (λ (r : Bool). if r then as_word begun ++ words_from gaps [] (bs ++ gap ∷ rest) else words_from gaps (begun ++ b ∷ []) (bs ++ gap ∷ rest)) all.0
    ∙ from_next gaps bs (begun ++ b ∷ []) rest gap is all.1
    ∙ ap (λ (w : List ℕ). as_word w ++ words gaps rest) (append_assoc begun (b ∷ []) bs)

words_joined : (gaps : List ℕ) (ws : List (List ℕ)) → is_gap gaps 32 ≡ true → AllByRecursion (IsWord gaps) ws → words gaps (join_with_byte 32 ws) ≡ ws
words_joined gaps [] is all = refl
words_joined gaps (w ∷ []) is all = from_last gaps w [] all.0.1 ∙ word_of-some w all.0.0
words_joined gaps (w ∷ v ∷ ws) is all =
    from_next gaps w [] (join_with_byte 32 (v ∷ ws)) 32 is all.0.1
    ∙ ap (λ (x : List (List ℕ)). x ++ words gaps (join_with_byte 32 (v ∷ ws))) (word_of-some w all.0.0)
    ∙ ap (λ (x : List (List ℕ)). w ∷ x) (words_joined gaps (v ∷ ws) is all.1)

-- ---- a normalised text is a comment

pub normalised_again : (text : List ℕ) → normalised (normalised text) ≡ normalised text
unfolding normalised
normalised_again text = ap (join_with_byte 32) (words_joined blanks (words blanks text) refl (are_words blanks [] text tt))

neither : (x y : Bool) → (x || y) ≡ false → (x ≡ false) × (y ≡ false)
neither true y e = absurd (false≢true (sym e))
neither false y e = (refl, e)

no_brace : (text : List ℕ) → has_brace text ≡ false → AllByRecursion (λ b. (b == 125) ≡ false) text
no_brace [] e = tt
no_brace (b ∷ bs) e =
    let both = neither (b == 125) (has_brace bs) e in
    (both.0, no_brace bs both.1)

none_has_brace : (text : List ℕ) → AllByRecursion (λ b. (b == 125) ≡ false) text → has_brace text ≡ false
none_has_brace [] all = refl
none_has_brace (b ∷ bs) all = ap (λ (x : Bool). x || has_brace bs) all.0 ∙ none_has_brace bs all.1

pub is_comment : (text : List ℕ) → has_brace text ≡ false → IsComment (normalised text)
unfolding normalised
is_comment text e = record {
  normal = normalised_again text;
  no_brace = none_has_brace (normalised text) (all_joined (λ b. (b == 125) ≡ false) (words blanks text) refl (all_words (λ b. (b == 125) ≡ false) blanks [] text tt (no_brace text e)));
}

-- ---- word by word

-- words after what is there, each after a space unless it is the first
abbrev pub behind : List ℕ → List (List ℕ) → List ℕ
behind [] ws = join_with_byte 32 ws
behind (b ∷ done) [] = b ∷ done
behind (b ∷ done) (w ∷ ws) = (b ∷ done) ++ 32 ∷ join_with_byte 32 (w ∷ ws)

behind_next : (done w : List ℕ) (ws : List (List ℕ)) → 0 < length w → behind (with_next_word done w) ws ≡ behind done (w ∷ ws)
behind_next [] [] ws some = absurd (omega arith)
behind_next [] (x ∷ w) [] some = refl
behind_next [] (x ∷ w) (v ∷ ws) some = refl
behind_next (b ∷ done) w [] some = refl
behind_next (b ∷ done) w (v ∷ ws) some = append_assoc (b ∷ done) (32 ∷ w) (32 ∷ join_with_byte 32 (v ∷ ws))

first_some : (w : List ℕ) (ws all : List (List ℕ)) → all ≡ w ∷ ws → AllByRecursion (IsWord blanks) all → 0 < length w
first_some w ws all e are = (subst (AllByRecursion (IsWord blanks)) e are).0.0

pub word_added : (done now w rest others text : List ℕ) → behind done (words blanks rest) ≡ normalised text
    → words blanks rest ≡ w ∷ words blanks others → now ≡ with_next_word done w
    → behind now (words blanks others) ≡ normalised text
word_added done now w rest others text loop split e =
    let some = first_some w (words blanks others) (words blanks rest) split (are_words blanks [] rest tt) in
    ap (λ (x : List ℕ). behind x (words blanks others)) e ∙ behind_next done w (words blanks others) some ∙ ap (behind done) (sym split) ∙ loop

-- with a word more it isn't empty
behind_some : (done w : List ℕ) (ws : List (List ℕ)) → 0 < length w → 0 < length (behind done (w ∷ ws))
behind_some [] [] ws some = absurd (omega arith)
behind_some [] (x ∷ w) [] some = omega arith
behind_some [] (x ∷ w) (v ∷ ws) some = omega arith
behind_some (b ∷ done) w ws some = omega arith

-- so a text with a word isn't blank
pub word_left : (done w rest others text : List ℕ) → behind done (words blanks rest) ≡ normalised text → words blanks rest ≡ w ∷ words blanks others →
    0 < length (normalised text)
word_left done w rest others text loop split =
    let some = first_some w (words blanks others) (words blanks rest) split (are_words blanks [] rest tt) in
    subst (λ (x : List ℕ). 0 < length x) (ap (behind done) (sym split) ∙ loop) (behind_some done w (words blanks others) some)

pub behind_start : (done text : List ℕ) → done ≡ [] → behind done (words blanks text) ≡ normalised text
unfolding normalised
behind_start done text e = ap (λ (x : List ℕ). behind x (words blanks text)) e

-- Sets of squares as words.
use Rattle.std.proofs.Common.{◌≡◌, ◌<◌, ◌≤◌, ℕ, ◌+◌, ◌^◌, sym, ap, ◌∙◌, arith}
use Rattle.std.specs.Prelude.{Bool, true, false, cond, ◌&&◌, nat_lt}
use Rattle.std.specs.Ordering.{nat_cmp}
use Rattle.std.specs.FinSet.{FinSet, contains, insert, contains-insert, contains-empty}
use Rattle.std.specs.Cmp.{unsigned_tied}
use Rattle.std.proofs.lemmas.Bool.Decides.{nat_tests}
use Rattle.std.proofs.lemmas.Cmp.{nat_cmp_total}
use lib.Lanes.{mask_l}
use Rattle.chess_types.specs.board.Bits.{set_of, bits_of, word_where}
use Rattle.chess_types.specs.steps.SetWords.{word_of-set_of}
use Rattle.chess_types.proofs.BitLemmas.{set_of_zero}
use Rattle.chess_c.proofs.PutLemmas.{same_map}

-- the word has the set's squares below a number
abbrev pub WordSoFar : FinSet nat_cmp → ℕ → ℕ → Type 0
WordSoFar set word i = (q : ℕ) → q < 64 → contains (set_of word) q ≡ (nat_lt q i && contains set q)

pub word_start : (set : FinSet nat_cmp) → WordSoFar set 0 0
word_start set q on_board = ap (λ (s : FinSet nat_cmp). contains s q) set_of_zero ∙ grind (arith, nat_tests, contains-empty nat_cmp q)

word_with : (set : FinSet nat_cmp) → (word word' i : ℕ) → contains set i ≡ true → set_of word' ≡ insert (set_of word) i → WordSoFar set word i → WordSoFar set word' (i + 1)
word_with set word word' i has is so_far q on_board =
    ap (λ (s : FinSet nat_cmp). contains s q) is ∙ contains-insert nat_cmp_total (set_of word) i q ∙ grind (arith, nat_tests, so_far q on_board, unsigned_tied q i, has)

word_without : (set : FinSet nat_cmp) → (word i : ℕ) → contains set i ≡ false → WordSoFar set word i → WordSoFar set word (i + 1)
word_without set word i has so_far q on_board = grind (arith, nat_tests, so_far q on_board, has)

-- one number more
pub word_on : (set : FinSet nat_cmp) → (word word' i : ℕ) → (has : Bool) → has ≡ contains set i → set_of word' ≡ cond has (insert (set_of word) i) (set_of word)
    → WordSoFar set word i → WordSoFar set word' (i + 1)
word_on set word word' i true has is so_far = word_with set word word' i (sym has) is so_far
word_on set word word' i false has is so_far = λ q on_board. ap (λ (s : FinSet nat_cmp). contains s q) is ∙ word_without set word i (sym has) so_far q on_board

pub word_whole : (set : FinSet nat_cmp) → (word i : ℕ) → 64 ≤ i → WordSoFar set word i → (q : ℕ) → q < 64 → contains (set_of word) q ≡ contains set q
word_whole set word i all so_far q on_board = grind (arith, nat_tests, so_far q on_board)

-- a word by what its squares are
pub word_is : (word : ℕ) → word < 2 ^ 64 → (test : ℕ → Bool) → ((q : ℕ) → q < 64 → contains (set_of word) q ≡ test q) → word ≡ word_where test
unfolding word_where bits_of
word_is word fits test same = sym (word_of-set_of word fits) ∙ ap mask_l (same_map false (contains (set_of word)) test same)

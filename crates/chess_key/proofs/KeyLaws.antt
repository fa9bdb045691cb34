-- How the key changes with one square.
use Rattle.std.proofs.Common.{◌≡◌, ◌≢◌, ℕ, ◌+◌, ◌-◌, ◌%◌, ◌^◌, ◌<◌, List, Some, None, refl, ap, sym, ◌∙◌, arith, add-one}
use Rattle.std.proofs.Math.Nat.{mod-add-mod, add-mod_right}
use Rattle.std.specs.Ordering.{nat_cmp}
use Rattle.std.specs.FinMap.{get, insert, remove, empty, get-empty}
use Rattle.chess_types.specs.declared.board.man.Man.{Man}
use Rattle.chess_types.specs.board.Board.{Board, Men, man_at}
use Rattle.chess_types.specs.board.Squares.{squares}
use Rattle.chess_types.proofs.BoardLaws.{boards}
use Rattle.chess_attack.proofs.Replaces.{put-again}
use Rattle.chess_key.specs.Keys.{key_word, word_there, word_on, key_of}
use Rattle.chess_key.proofs.Sums.{run, run-none, run-more, run-zero, run-one}

-- the sum over the first squares
abbrev pub sum_below : List ℕ → Men → ℕ → ℕ
sum_below words man_on n = run (word_on words man_on) 0 n

-- the key of the men on the first squares
unfoldable pub key_below : List ℕ → Men → ℕ → ℕ
key_below words man_on n = sum_below words man_on n % 2 ^ 64

key_is_sum : (words : List ℕ) (man_on : Men) → key_of words man_on ≡ sum_below words man_on 64 % 2 ^ 64
unfolding key_of squares run
key_is_sum words man_on = refl

pub key_below-all : (words : List ℕ) (man_on : Men) → key_below words man_on 64 ≡ key_of words man_on
unfolding key_below
key_below-all words man_on = sym (key_is_sum words man_on)

pub key_below-none : (words : List ℕ) (man_on : Men) → key_below words man_on 0 ≡ 0
unfolding key_below
key_below-none words man_on = ap (λ x. x % 2 ^ 64) (run-none (word_on words man_on) 0)

pub key_below-more : (words : List ℕ) (man_on : Men) (n : ℕ) → (key_below words man_on n + word_on words man_on n) % 2 ^ 64 ≡ key_below words man_on (n + 1)
unfolding key_below
key_below-more words man_on n =
    let here : word_on words man_on (0 + n) ≡ word_on words man_on n = ap (word_on words man_on) (omega arith) in
    let more : sum_below words man_on n + word_on words man_on n ≡ sum_below words man_on (n + 1) =
    omega (arith, run-more (word_on words man_on) 0 n, ap (sum_below words man_on) (add-one n)) in
    mod-add-mod (sum_below words man_on n) (2 ^ 64) (word_on words man_on n) ∙ ap (λ x. x % 2 ^ 64) more

-- two boards that differ on one square alone
sum-one :
    (words : List ℕ) (before after : Men) (at : ℕ) → at < 64 → ((t : ℕ) → t ≢ at → after t ≡ before t) →
    sum_below words after 64 + word_on words before at ≡ sum_below words before 64 + word_on words after at
sum-one words before after at h rest =
    run-one (word_on words after) (word_on words before) 0 64 at (omega arith) (omega arith)
    (λ t apart. ap (λ there. word_there words there t) (rest t apart))

-- a man more
pub key_of-put :
    (words : List ℕ) (board : Board) (at : ℕ) (man : Man) → at < 64 → get board at ≡ None →
    (key_of words (man_at board) + key_word words man at) % 2 ^ 64 ≡ key_of words (man_at (insert board at man))
key_of-put words board at man h none =
    let change = sum-one words (man_at board) (man_at (insert board at man)) at h (λ t apart. grind (arith, boards)) in
    let was : word_on words (man_at board) at ≡ 0 = ap (λ there. word_there words there at) none in
    let here : get (insert board at man) at ≡ Some man = grind (arith, boards) in
    let now : word_on words (man_at (insert board at man)) at ≡ key_word words man at = ap (λ there. word_there words there at) here in
    let sum : sum_below words (man_at board) 64 + key_word words man at ≡ sum_below words (man_at (insert board at man)) 64 = omega (arith, change) in
    rw (key_is_sum words (man_at board), key_is_sum words (man_at (insert board at man)))
    (mod-add-mod (sum_below words (man_at board) 64) (2 ^ 64) (key_word words man at) ∙ ap (λ x. x % 2 ^ 64) sum)

-- a man fewer, or none where there is none
pub key_of-clear :
    (words : List ℕ) (board : Board) (at : ℕ) → at < 64 → word_on words (man_at board) at < 2 ^ 64 →
    (key_of words (man_at board) + (2 ^ 64 - word_on words (man_at board) at)) % 2 ^ 64 ≡ key_of words (man_at (remove board at))
key_of-clear words board at h fits =
    let change = sum-one words (man_at board) (man_at (remove board at)) at h (λ t apart. grind (arith, boards)) in
    let here : get (remove board at) at ≡ None = grind (arith, boards) in
    let now : word_on words (man_at (remove board at)) at ≡ 0 = ap (λ there. word_there words there at) here in
    let sum : sum_below words (man_at board) 64 + (2 ^ 64 - word_on words (man_at board) at) ≡ sum_below words (man_at (remove board at)) 64 + 2 ^ 64 =
    omega (arith, change) in
    rw (key_is_sum words (man_at board), key_is_sum words (man_at (remove board at)))
    (mod-add-mod (sum_below words (man_at board) 64) (2 ^ 64) (2 ^ 64 - word_on words (man_at board) at) ∙ ap (λ x. x % 2 ^ 64) sum
    ∙ add-mod_right (sum_below words (man_at (remove board at)) 64) (2 ^ 64))

-- another man in the place of what stands there
pub key_of-replace :
    (words : List ℕ) (board : Board) (at : ℕ) (man : Man) → at < 64 →
    (key_of words (man_at (remove board at)) + key_word words man at) % 2 ^ 64 ≡ key_of words (man_at (insert board at man))
key_of-replace words board at man h =
    let none : get (remove board at) at ≡ None = grind (arith, boards) in
    key_of-put words (remove board at) at man h none ∙ ap (λ (b : Board). key_of words (man_at b)) (put-again board at man)

-- the empty board
pub key_of-empty : (words : List ℕ) → key_of words (man_at (empty {R = nat_cmp})) ≡ 0
key_of-empty words =
    let none : sum_below words (man_at (empty {R = nat_cmp})) 64 ≡ 0 =
    run-zero (word_on words (man_at (empty {R = nat_cmp}))) 0 64 (λ t. ap (λ there. word_there words there t) (get-empty nat_cmp t)) in
    key_is_sum words (man_at (empty {R = nat_cmp})) ∙ ap (λ x. x % 2 ^ 64) none

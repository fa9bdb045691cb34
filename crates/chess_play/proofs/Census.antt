-- What stands on the squares, and how many men of a sort a board has, after a man is put on it or taken away.
use Rattle.std.proofs.Common.{◌≡◌, ◌≢◌, ℕ, ◌+◌, ◌<◌, ◌≤◌, Bool, Option, Some, None, refl, ap, ◌∙◌, arith}
use Rattle.std.proofs.lemmas.Bool.{ne_eqb, eq-eqb}
use Rattle.std.specs.FinMap.{insert, remove}
use Rattle.chess_types.specs.declared.board.man.Man.{Man}
use Rattle.chess_types.specs.board.Board.{Board, man_at}
use Rattle.chess_types.specs.board.Squares.{squares}
use Rattle.chess_types.specs.board.Men.{is_of, count_squares, men_of}
use Rattle.chess_types.proofs.BoardLaws.{get-put, get-clear}
use Rattle.chess_types.proofs.SameLemmas.{same_self}
use Rattle.chess_types.proofs.Sums.{bit, total, total-one, sum_by-range}

-- a man stands where he is put
pub put_here : (board : Board) (at : ℕ) (man : Man) → man_at (insert board at man) at ≡ Some man
put_here board at man = get-put board at man at ∙ rw (eq-eqb at at refl) refl

-- and the other squares are as before
pub put_there : (board : Board) (at : ℕ) (man : Man) (q : ℕ) → q ≢ at → man_at (insert board at man) q ≡ man_at board q
put_there board at man q other = get-put board at man q ∙ rw (ne_eqb q at other) refl

-- no man stands on a square that was cleared
pub clear_here : (board : Board) (at : ℕ) → man_at (remove board at) at ≡ None
clear_here board at = get-clear board at at ∙ rw (eq-eqb at at refl) refl

-- and the other squares are as before
pub clear_there : (board : Board) (at q : ℕ) → q ≢ at → man_at (remove board at) q ≡ man_at board q
clear_there board at q other = get-clear board at q ∙ rw (ne_eqb q at other) refl

module _ (test : Option Man → Bool) where
  census_is_total : (board : Board) → count_squares test board ≡ total (λ s. bit (test (man_at board s))) 0 64
  unfolding count_squares squares
  census_is_total board = sum_by-range (λ s. bit (test (man_at board s))) 0 64

  -- two boards that differ on one square
  pub census_one : (a b : Board) (at : ℕ) → at < 64 → ((q : ℕ) → q ≢ at → man_at a q ≡ man_at b q) →
      count_squares test a + bit (test (man_at b at)) ≡ count_squares test b + bit (test (man_at a at))
  census_one a b at inside same =
      let e = total-one (λ s. bit (test (man_at a s))) (λ s. bit (test (man_at b s))) at 0 64 (omega arith) inside
      (λ x low high other. ap (λ o. bit (test o)) (same x other)) in
      omega (arith, e, census_is_total a, census_is_total b)

  -- after a man is put
  pub census_put : (board : Board) (at : ℕ) (man : Man) → at < 64 →
      count_squares test (insert board at man) + bit (test (man_at board at)) ≡ count_squares test board + bit (test (Some man))
  census_put board at man inside =
      census_one (insert board at man) board at inside (put_there board at man)
      ∙ ap (λ o. count_squares test board + bit (test o)) (put_here board at man)

  -- after a square is cleared
  pub census_clear : (board : Board) (at : ℕ) → at < 64 →
      count_squares test (remove board at) + bit (test (man_at board at)) ≡ count_squares test board + bit (test None)
  census_clear board at inside =
      census_one (remove board at) board at inside (clear_there board at)
      ∙ ap (λ o. count_squares test board + bit (test o)) (clear_here board at)

-- it has one man fewer of his colour where a man leaves it
pub clear_room : (board : Board) (at : ℕ) (man : Man) → at < 64 → man_at board at ≡ Some man → men_of board man.colour ≤ 16 →
    men_of (remove board at) man.colour < 16
clear_room board at man inside here few =
    let n = census_clear (is_of man.colour) board at inside in
    let one : bit (is_of man.colour (man_at board at)) ≡ 1 = ap (λ o. bit (is_of man.colour o)) here ∙ ap bit (same_self man.colour) in
    omega arith

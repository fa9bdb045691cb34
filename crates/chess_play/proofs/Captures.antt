-- A capture on the square to which the man goes: he takes the captured man's place, and gives it back.
use Rattle.std.proofs.Common.{◌≡◌, ◌≢◌, ◌==◌, ℕ, ◌+◌, ◌<◌, Bool, true, Option, Some, None, IsSome, sym, ap, subst, ◌∙◌, arith, inl, inr}
use Rattle.std.proofs.lemmas.Bool.{true≢false, cases_eq, ne_eqb}
use Rattle.std.proofs.lemmas.Option.{none-some}
use Rattle.std.specs.FinMap.{insert, remove}
use Rattle.chess_types.specs.declared.board.man.Colour.{Colour}
use Rattle.chess_types.specs.declared.board.man.Colour.TheVariants.{White, Black}
use Rattle.chess_types.specs.declared.board.man.Man.{Man}
use Rattle.chess_types.specs.board.Board.{Board, man_at}
use Rattle.chess_types.specs.board.Men.{same_colour, is_of, men_of}
use Rattle.chess_types.proofs.BoardLaws.{boards, same_board, clear-none}
use Rattle.chess_types.proofs.Sums.{bit}
use Rattle.chess_play.specs.steps.Boards.{CanShift, moved}
use Rattle.chess_play.proofs.Census.{put_here, put_there, clear_here, clear_there, census_put}

-- a test of two squares
pub same_square : (a b : ℕ) (r : Bool) → r ≡ (a == b) → r ≡ true → a ≡ b
same_square a b r e h =
    elim (cases_eq a b) [
      | inl same ↦ same
      | inr apart ↦ absurd (true≢false (sym h ∙ e ∙ ne_eqb a b apart))
    ]

some_none : (o : Option Man) → o ≡ None → IsSome o → ⊥
some_none None e h = true≢false (sym h)
some_none (Some m) e h = none-some m (sym e)

clears_swap : (board : Board) (at from : ℕ) → remove (remove board from) at ≡ remove (remove board at) from
clears_swap board at from = same_board _ _ (λ q. grind (arith, boards))

again_cleared : (board : Board) (at : ℕ) (man : Man) → insert (remove board at) at man ≡ insert board at man
again_cleared board at man = same_board _ _ (λ q. grind (arith, boards))

-- the captured man stands on the square to which the man goes
module _ (board : Board) (from to : ℕ) (man : Man) (goes : CanShift (remove board to) from to man) where
  apart : from ≢ to
  apart same = some_none (man_at (remove board to) from) (ap (man_at (remove board to)) same ∙ clear_here board to) goes.here

  pub goes_here : IsSome (man_at board from)
  goes_here = subst IsSome (clear_there board to from apart) goes.here

  pub struck : IsSome (man_at board to) → IsSome (man_at (remove board from) to)
  struck h = subst IsSome (sym (clear_there board from to (λ e. apart (sym e)))) h

  pub struck_room : men_of (remove (remove board from) to) man.colour < 16
  struck_room = subst (λ (b : Board). men_of b man.colour < 16) (sym (clears_swap board to from)) goes.room

  pub struck_board : insert (remove board from) to man ≡ moved from to man (remove board to)
  struck_board = sym (again_cleared (remove board from) to man) ∙ ap (λ (b : Board). insert b to man) (clears_swap board to from)

-- nothing is captured
module _ (board : Board) (at from to : ℕ) (man : Man) (goes : CanShift (remove board at) from to man) (none : man_at board at ≡ None) where
  pub quiet_board : remove board at ≡ board
  quiet_board = clear-none board at none

  pub quiet_goes : CanShift board from to man
  quiet_goes = subst (λ (b : Board). CanShift b from to man) quiet_board goes

-- the captured man stood on the square from which the man goes back
module _ (board : Board) (from to : ℕ) (man other : Man) (inside : to < 64) (start : from < 64) (goes : CanShift board to from man)
    (free : man_at (moved to from man board) to ≡ None) (room : men_of (moved to from man board) other.colour < 16) where
  away : from ≢ to
  away same = none-some man (sym free ∙ sym (ap (man_at (moved to from man board)) same) ∙ put_here (remove board to) from man)

  census : (c : Colour) → men_of (moved to from man board) c ≡ men_of (remove board to) c + bit (same_colour man.colour c)
  census c =
      let n = census_put (is_of c) (remove board to) from man start in
      let none : bit (is_of c (man_at (remove board to) from)) ≡ 0 = ap (λ o. bit (is_of c o)) goes.free in
      omega arith

  census_other : (c : Colour) → men_of (insert board to other) c ≡ men_of (remove board to) c + bit (same_colour other.colour c)
  census_other c =
      let n = census_put (is_of c) (remove board to) to other inside in
      let none : bit (is_of c (man_at (remove board to) to)) ≡ 0 = ap (λ o. bit (is_of c o)) (clear_here board to) in
      let same : men_of (insert (remove board to) to other) c ≡ men_of (insert board to other) c =
      ap (λ (b : Board). men_of b c) (again_cleared board to other) in
      omega arith

  pub freed_room : men_of (remove board to) other.colour < 16
  freed_room = omega (arith, census other.colour)

  pub freed_empty : man_at (insert board to other) from ≡ None
  freed_empty = put_there board to other from away ∙ sym (clear_there board to from away) ∙ goes.free

  pub freed_put : men_of (insert board to other) man.colour < 16
  freed_put = room_by man.colour other.colour goes.room room (census other.colour) (census_other man.colour)
    where
      room_by : (m o : Colour) → men_of (remove board to) m < 16 → men_of (moved to from man board) o < 16 →
          men_of (moved to from man board) o ≡ men_of (remove board to) o + bit (same_colour m o) →
          men_of (insert board to other) m ≡ men_of (remove board to) m + bit (same_colour o m) →
          men_of (insert board to other) m < 16
      room_by White White r s e f = omega arith
      room_by White Black r s e f = omega arith
      room_by Black White r s e f = omega arith
      room_by Black Black r s e f = omega arith

  pub freed_board : insert (insert board to other) from man ≡ insert (moved to from man board) to other
  freed_board = same_board _ _ (λ q. elim (cases_eq q to) [
    | inl same ↦ grind (arith, boards, away)
    | inr apart ↦ grind (arith, boards)
  ])

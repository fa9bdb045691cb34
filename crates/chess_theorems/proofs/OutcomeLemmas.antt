-- The status of a line, the claims, and the texts of moves.
use Rattle.std.proofs.Common.{◌≡◌, ◌&&◌, not, nat_le, Bool, true, false, Some, if◌then◌else◌, refl, sym, ◌∙◌, ◌≤◌, arith}
use Rattle.std.proofs.lemmas.Bool.{leb-true}
use Rattle.chess_types.specs.declared.board.outcome.Status.{Status}
use Rattle.chess_types.specs.declared.board.outcome.Status.TheVariants.{Mate, Stalemate, Dead, Fivefold, Seventyfive, Play}
use Rattle.chess_types.specs.board.MoveParts.{MoveParts}
use Rattle.chess_types.specs.board.Attack.{in_check}
use Rattle.chess_types.specs.board.Position.{man_on}
use Rattle.chess_types.specs.board.Legal.{is_legal, legal_moves}
use Rattle.chess_types.specs.board.Lines.{Line, last, extended}
use Rattle.chess_types.specs.board.Outcome.{is_without, is_play, status_at, status, claims, claims_with}
use Rattle.chess_types.specs.board.Repetition.{repetitions}
use Rattle.chess_types.specs.board.Dead.{is_dead}
use Rattle.chess_theorems.specs.DeadLaws.{is_mate}
use Rattle.chess_play.proofs.Facts.{never}
use Rattle.chess_theorems.specs.OutcomeLaws.{shows_fivefold, shows_mate, shows_seventyfive, shows_stalemate}

-- a test of a status that fails for each draw and for play fails where a move is left
with_a_move : (test : Status → Bool) → test Dead ≡ false → test Fivefold ≡ false → test Seventyfive ≡ false → test Play ≡ false → (dead five most : Bool) →
    test (if dead then Dead else (if five then Fivefold else (if most then Seventyfive else Play))) ≡ false
with_a_move test a b c d true five most = a
with_a_move test a b c d false true most = b
with_a_move test a b c d false false true = c
with_a_move test a b c d false false false = d

-- such a test says whether there is no move, and what it says of check then
without_a_move : (test : Status → Bool) (of : Bool → Bool) → test Mate ≡ of true → test Stalemate ≡ of false → test Dead ≡ false → test Fivefold ≡ false → test Seventyfive ≡ false → test Play ≡ false →
    (line : Line) → test (status line) ≡ (is_without (legal_moves (last line)) && of (in_check (man_on (last line)) (last line).side))
unfolding status status_at
without_a_move test of mate stalemate a b c d line =
    by_tests (is_without (legal_moves (last line))) (in_check (man_on (last line)) (last line).side) (is_dead (last line)) (nat_le 5 (repetitions line))
    (nat_le 150 (last line).clock)
  where
    by_tests : (none check dead five most : Bool) →
        test (if none then (if check then Mate else Stalemate) else (if dead then Dead else (if five then Fivefold else (if most then Seventyfive else Play)))) ≡ (none && of check)
    by_tests true true dead five most = mate
    by_tests true false dead five most = stalemate
    by_tests false check dead five most = with_a_move test a b c d dead five most

pub mate_is_mate : (line : Line) → shows_mate (status line) ≡ is_mate (last line)
mate_is_mate = without_a_move shows_mate (λ check. check) refl refl refl refl refl refl

pub stalemate_is_none : (line : Line) →
    shows_stalemate (status line) ≡ (is_without (legal_moves (last line)) && not (in_check (man_on (last line)) (last line).side))
stalemate_is_none = without_a_move shows_stalemate not refl refl refl refl refl refl

pub claims_agree : (line : Line) (m : MoveParts) → is_legal (last line) m ≡ true → is_play (status line) ≡ true → is_play (status (extended line m)) ≡ true →
    claims_with line m ≡ Some (claims (extended line m))
unfolding claims claims_with
claims_agree line m legal before after = rw (legal, before, after) refl

-- a test that fails for the other statuses holds by a draw that has come up
of_a_draw : (test : Status → Bool) → test Mate ≡ false → test Stalemate ≡ false → test Dead ≡ false → test Play ≡ false → (φ : Type 0) (line : Line) →
    (nat_le 5 (repetitions line) ≡ true → test Fivefold ≡ true → φ) → (nat_le 150 (last line).clock ≡ true → test Seventyfive ≡ true → φ) → test (status line) ≡ true → φ
unfolding status status_at
of_a_draw test a b c d φ line =
    by_tests (is_without (legal_moves (last line))) (in_check (man_on (last line)) (last line).side) (is_dead (last line)) (nat_le 5 (repetitions line))
    (nat_le 150 (last line).clock)
  where
    by_tests : (none check dead five most : Bool) → (five ≡ true → test Fivefold ≡ true → φ) → (most ≡ true → test Seventyfive ≡ true → φ) →
        test (if none then (if check then Mate else Stalemate) else (if dead then Dead else (if five then Fivefold else (if most then Seventyfive else Play)))) ≡ true → φ
    by_tests true true dead five most x y h = never (sym a ∙ h)
    by_tests true false dead five most x y h = never (sym b ∙ h)
    by_tests false check true five most x y h = never (sym c ∙ h)
    by_tests false check false true most x y h = x refl h
    by_tests false check false false true x y h = y refl h
    by_tests false check false false false x y h = never (sym d ∙ h)

pub draws_were_claimable : (line : Line) →
    (shows_fivefold (status line) ≡ true → 3 ≤ repetitions line) × (shows_seventyfive (status line) ≡ true → 100 ≤ (last line).clock)
draws_were_claimable line = (
  of_a_draw shows_fivefold refl refl refl refl (3 ≤ repetitions line) line (λ five h. omega (arith, leb-true 5 (repetitions line) five)) (λ most h. never h),
  of_a_draw shows_seventyfive refl refl refl refl (100 ≤ (last line).clock) line (λ five h. never h) (λ most h. omega (arith, leb-true 150 (last line).clock most)),
)

pub claims_end : (line : Line) → is_play (status line) ≡ false → claims line ≡ record { threefold = false; fifty = false }
unfolding claims
claims_end line over = rw over refl

-- What is answered of a line, by what is found out of its last position.
use Rattle.std.proofs.Common.{◌≡◌, ℕ, Bool, ◌&&◌, ◌||◌, true, false, List, [], ◌∷◌, length, nat_lt, Some, None, Result, Ok, Err, OnOk, refl, sym, ap, ◌∙◌, arith}
use Rattle.chess_types.specs.declared.board.outcome.Status.{Status}
use Rattle.chess_types.specs.board.MoveParts.{MoveParts}
use Rattle.chess_types.specs.board.Attack.{in_check}
use Rattle.chess_types.specs.board.Men.{opponent}
use Rattle.chess_types.specs.board.Position.{PositionParts, man_on}
use Rattle.chess_types.specs.board.Legal.{is_legal, legal_moves}
use Rattle.chess_types.specs.board.Lines.{Line, last, extended}
use Rattle.chess_types.specs.board.Repetition.{repetitions}
use Rattle.chess_types.specs.board.Outcome.{status_at, status, is_play, claims_at, claims, claims_with, is_without, winner}
use Rattle.chess_draws.specs.declared.fault.LineFault.TheVariants.{Illegal}
use Rattle.chess_draws.specs.Draws.{is_drawn_at, is_claimable_at, is_drawn, is_claimable}
use Rattle.chess_draws.specs.Pushes.{push_answer}

-- how a line stands, from the position and the count
pub status_is : (line : Line) (p : PositionParts) (count : ℕ) → p ≡ last line → count ≡ repetitions line → status_at p count ≡ status line
unfolding status
status_is line p count position is = ap (λ (s : PositionParts). status_at s count) position ∙ ap (status_at (last line)) is

-- and what may be claimed
pub claims_is : (line : Line) (now : Status) (count clock : ℕ) → now ≡ status line → count ≡ repetitions line → clock ≡ (last line).clock →
    claims_at (is_play now) count clock ≡ claims line
unfolding claims
claims_is line now count clock status_is count_is clock_is =
    ap (λ (s : Status). claims_at (is_play s) count clock) status_is
    ∙ ap (λ (n : ℕ). claims_at (is_play (status line)) n clock) count_is
    ∙ ap (claims_at (is_play (status line)) (repetitions line)) clock_is

pub claims_with_is : (line : Line) (m : MoveParts) (now : Status) (count clock : ℕ) → is_legal (last line) m ≡ true → now ≡ status line →
    count ≡ repetitions (extended line m) → clock ≡ (last (extended line m)).clock →
    Some (claims_at (is_play now) count clock) ≡ claims_with line m
unfolding claims_with
claims_with_is line m now count clock legal status_is count_is clock_is =
    rw legal
    (ap (λ (s : Status). Some (claims_at (is_play s) count clock)) status_is
    ∙ ap (λ (n : ℕ). Some (claims_at (is_play (status line)) n clock)) count_is
    ∙ ap (λ (n : ℕ). Some (claims_at (is_play (status line)) (repetitions (extended line m)) n)) clock_is)

-- none with another move
pub claims_with_none : (line : Line) (m : MoveParts) → is_legal (last line) m ≡ false → None ≡ claims_with line m
unfolding claims_with
claims_with_none line m illegal = rw illegal refl

-- whether it is a draw where there is a legal move
pub drawn_is : (line : Line) (p : PositionParts) (count : ℕ) (claims : Bool) → p ≡ last line → count ≡ repetitions line →
    (is_drawn_at p count || (claims && is_claimable_at p count)) ≡ (is_drawn line || (claims && is_claimable line))
unfolding is_drawn is_claimable
drawn_is line p count claims position is = λ i. is_drawn_at (position i) (is i) || (claims && is_claimable_at (position i) (is i))

-- the answer to a move that isn't legal
pub answer_illegal : (line : Line) (m : MoveParts) → is_legal (last line) m ≡ false → push_answer line m ≡ Err Illegal
answer_illegal line m illegal = rw illegal refl

-- what holds anyway holds where it went well
pub when_ok : {A E P : Type 0} (r : Result A E) → P → OnOk r P
when_ok (Ok x) p = p
when_ok (Err e) p = tt

-- ---- who has mated

without_any : (moves : List MoveParts) → nat_lt 0 (length moves) ≡ false → is_without moves ≡ true
without_any [] none = refl
without_any (m ∷ moves) none = absurd (grind (arith, none))

pub winner_is : (p : PositionParts) (has checked : Bool) → has ≡ nat_lt 0 (length (legal_moves p)) → checked ≡ in_check (man_on p) p.side → has ≡ false → checked ≡ true →
    winner p ≡ Some (opponent p.side)
winner_is p has checked has_is checked_is none check = rw (without_any (legal_moves p) (sym has_is ∙ none), sym checked_is ∙ check) refl

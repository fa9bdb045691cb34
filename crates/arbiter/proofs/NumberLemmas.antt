-- The numbers of the moves of a line, and that its first ply with a property is one of its plies.
use Rattle.std.proofs.Common.{◌≡◌, ◌≤◌, ◌<◌, ◌+◌, ◌/◌, ℕ, zero, suc, Bool, true, false, if◌then◌else◌, nat_lt, ◌&&◌, List, [], ◌∷◌, length, take, Option, Some, None, refl, sym, ap, subst, ◌∙◌, arith}
use Rattle.chess_types.specs.declared.board.man.Colour.{Colour}
use Rattle.chess_types.specs.declared.board.man.Colour.TheVariants.{White, Black}
use Rattle.chess_types.specs.declared.board.man.Man.{Man}
use Rattle.chess_types.specs.board.After.{after, after_by, number_after}
use Rattle.chess_types.specs.board.Legal.{is_legal}
use Rattle.chess_types.specs.board.Lines.{AreLegal, Line, last, play}
use Rattle.chess_types.specs.board.Men.{colour_number, opponent}
use Rattle.chess_types.specs.board.MoveParts.{MoveParts}
use Rattle.chess_types.specs.board.Position.{PositionParts, man_on}
use Rattle.chess_types.specs.board.Pseudo.{is_pseudo, moves_man}
use Rattle.chess_report.specs.MainLine.{as_far, else_here, first, least}
use Rattle.arbiter.specs.Rows.{early, move_leading_to}
use Rattle.arbiter.specs.steps.Reports.{move_by, number_of_move}

-- a side's move: the other is to move, and the number is the next after Black's
pub record Turns (p q : PositionParts) : Type 0 where
  pub side : q.side ≡ opponent p.side
  pub number : q.number ≡ number_after p.side p.number

by_man : (p : PositionParts) (man : Option Man) (m : MoveParts) → moves_man p man m ≡ true → Turns p (after_by p man m)
by_man p None m is = absurd cc
by_man p (Some man) m is = record { side = refl; number = refl }

first_of : (a b : Bool) → (a && b) ≡ true → a ≡ true
first_of true b is = refl
first_of false b is = is

turns : (p : PositionParts) (m : MoveParts) → is_legal p m ≡ true → Turns p (after p m)
unfolding is_legal after
turns p m legal = by_man p (man_on p m.from) m (first_of (is_pseudo p m) _ legal)

one_more : (side : Colour) (k first n : ℕ) → n ≡ number_after side first + (k + colour_number (opponent side)) / 2 → n ≡ first + (suc k + colour_number side) / 2
one_more White k first n is = omega (arith, is)
one_more Black k first n is = omega (arith, is)

pub numbered : (p : PositionParts) (moves : List MoveParts) (n : ℕ) → AreLegal p moves → n ≤ length moves → (play p (take n moves)).number ≡ number_of_move p n
numbered p moves zero legal few = one_zero p.side p.number
  where
    one_zero : (side : Colour) (first : ℕ) → first ≡ first + (0 + colour_number side) / 2
    one_zero White first = omega arith
    one_zero Black first = omega arith
numbered p [] (suc n) legal few = absurd (omega (arith, few))
numbered p (m ∷ moves) (suc n) legal few =
    let t = turns p m legal.0 in
    one_more p.side n p.number _
    (numbered (after p m) moves n legal.1 (omega (arith, few)) ∙ subst (λ (k : ℕ). number_of_move (after p m) n ≡ k + (n + colour_number (opponent p.side)) / 2) t.number
    (ap (λ (c : Colour). (after p m).number + (n + colour_number c) / 2) t.side))

-- ---- the plies of a line

below_by : (found : Option ℕ) (test : Bool) (n k : ℕ) → ((j : ℕ) → found ≡ Some j → j < n) → else_here found test n ≡ Some k → k < suc n
below_by (Some j) test n k below is = (let h = below k is in omega (arith, h))
below_by None true n k below is = (let h = some_same n k is in omega (arith, h))
  where
    some_same : (x y : ℕ) → Some x ≡ Some y → x ≡ y
    some_same x y e = cc
below_by None false n k below is = absurd cc

least_below : (has : ℕ → Bool) (n k : ℕ) → least has n ≡ Some k → k < n
least_below has zero k is = absurd cc
least_below has (suc n) k is = below_by (least has n) (has n) n k (λ j found. least_below has n j found) is

-- a ply of the line, if any
abbrev pub IsWithin : Line → Option ℕ → Type 0
IsWithin line ply = (k : ℕ) → ply ≡ Some k → k ≤ length line.moves

pub first_within : (has : Line → Bool) (line : Line) → IsWithin line (first has line)
first_within has line k is = (let h = least_below (λ n. has (as_far n line)) (suc (length line.moves)) k is in omega (arith, h))

early_by : (line : Line) (ply : ℕ) (test : Bool) → ply ≤ length line.moves → IsWithin line (if test then Some ply else None)
early_by line ply true within k is = (let h = some_same ply k is in omega (arith, h, within))
  where
    some_same : (x y : ℕ) → Some x ≡ Some y → x ≡ y
    some_same x y e = cc
early_by line ply false within k is = absurd cc

pub early_within : (line : Line) (ply : Option ℕ) → IsWithin line ply → IsWithin line (early ply (length line.moves))
early_within line None within k is = absurd cc
early_within line (Some ply) within k is = early_by line ply (nat_lt ply (length line.moves)) (within ply refl) k is

-- the number of the move that leads to a ply, in the words of the Laws
pub move_is : (line : Line) → AreLegal line.start line.moves → (ply : Option ℕ) → IsWithin line ply → move_by line.start ply ≡ move_leading_to line ply
unfolding last
move_is line legal None within = refl
move_is line legal (Some zero) within = refl
move_is line legal (Some (suc n)) within = ap Some (sym (numbered line.start line.moves n legal (let h = within (suc n) refl in omega (arith, h))))

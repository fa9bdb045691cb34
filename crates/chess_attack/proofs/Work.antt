-- What ticks are worth: one for each change of one, and so at least what changed.
use Rattle.std.proofs.Common.{◌≡◌, ◌==◌, ℕ, ◌+◌, ◌-◌, ◌<◌, ◌≤◌, ◌^◌, min, refl, sym, ◌∙◌, arith}
use Rattle.std.proofs.lemmas.Bool.{eq-eqb, ne_eqb}
use Rattle.chess_types.specs.declared.board.man.Colour.{Colour}
use Rattle.chess_types.specs.declared.board.man.Colour.TheVariants.{White, Black}
use Rattle.chess_types.specs.board.Squares.{squares}
use Rattle.chess_types.specs.board.Attack.{distance}
use Rattle.chess_attack.specs.declared.change.Change.{Change}
use Rattle.chess_attack.specs.declared.change.Change.TheVariants.{Raise, Lower}
use Rattle.chess_attack.specs.KeptCounts.{KeptCounts, count_in, change_between, Worked}
use Rattle.chess_attack.specs.steps.Marks.{Moved, Moves, one_at}
use Rattle.chess_types.proofs.Sums.{bit, total, total-agree, total-one, total-le, total-add, total-zero, sum_by-range}

-- by how much the two counts of a square differ
abbrev pub gap_at : KeptCounts → KeptCounts → ℕ → ℕ
gap_at old new s = distance (count_in old White s) (count_in new White s) + distance (count_in old Black s) (count_in new Black s)

pub changed_is_total : (old new : KeptCounts) → change_between old new ≡ total (gap_at old new) 0 64
unfolding change_between squares
changed_is_total old new = sum_by-range (gap_at old new) 0 64

changed_self : (t : KeptCounts) → change_between t t ≡ 0
changed_self t = changed_is_total t t ∙ total-zero (gap_at t t) 0 64 (λ x. omega arith)

-- what changed in two pieces
changed_trans : (a b c : KeptCounts) → change_between a c ≤ change_between a b + change_between b c
changed_trans a b c =
    let both : total (gap_at a c) 0 64 ≤ total (λ s. gap_at a b s + gap_at b c s) 0 64 =
    total-le (gap_at a c) (λ s. gap_at a b s + gap_at b c s) 0 64 (λ s low high. omega arith) in
    omega (arith, total-add (gap_at a b) (gap_at b c) 0 64, changed_is_total a c, changed_is_total a b, changed_is_total b c)

gap_moved : (change : Change) (old by new : ℕ) → Moved change old by new → distance old new ≡ by
gap_moved Raise old by new h = omega arith
gap_moved Lower old by new h = omega arith

one_colour : (colour : Colour) (square s : ℕ) → one_at colour square White s + one_at colour square Black s ≡ bit (square == s)
one_colour White square s = omega arith
one_colour Black square s = omega arith

-- a change of one
changed_step :
    (a b : KeptCounts) (change : Change) (colour : Colour) (square : ℕ) → square < 64 →
    Moves change a b (one_at colour square) →
    change_between a b ≡ 1
changed_step a b change colour square lt h =
    let each : (s : ℕ) → s < 64 → gap_at a b s ≡ bit (square == s) = λ s hs.
    omega (
      arith,
      one_colour colour square s,
      gap_moved change (count_in a White s) (one_at colour square White s) (count_in b White s) (h White s hs),
      gap_moved change (count_in a Black s) (one_at colour square Black s) (count_in b Black s) (h Black s hs),
    ) in
    let sum : total (gap_at a b) 0 64 ≡ total (λ s. bit (square == s)) 0 64 =
    total-agree (gap_at a b) (λ s. bit (square == s)) 0 64 (λ s low high. each s high) in
    let one : total (λ s. bit (square == s)) 0 64 + 0 ≡ total (λ s. 0) 0 64 + bit (square == square) =
    total-one (λ s. bit (square == s)) (λ s. 0) square 0 64 (omega arith) lt
    (λ x low high ne. rw (ne_eqb square x (λ e. ne (sym e))) refl) in
    let here : bit (square == square) ≡ 1 = rw (eq-eqb square square refl) refl in
    omega (arith, changed_is_total a b, total-zero (λ s. 0) 0 64 (λ x. refl))

-- no work
pub worked_none : (t : KeptCounts) (n : ℕ) → Worked t t n
worked_none t n = record { at_most = omega arith; at_least = λ h. omega (arith, changed_self t) }

-- one change
pub worked_step :
    (a b : KeptCounts) (change : Change) (colour : Colour) (square : ℕ) → square < 64 →
    Moves change a b (one_at colour square) →
    b.ticks ≡ min (a.ticks + 1) (2 ^ 32 - 1) → Worked a b 1
worked_step a b change colour square lt h e = record {
  at_most = omega arith;
  at_least = λ room. omega (arith, changed_step a b change colour square lt h);
}

-- two pieces of work
pub worked_more : (a b c : KeptCounts) (m n : ℕ) → Worked a b m → Worked b c n → Worked a c (m + n)
worked_more a b c m n p q = record {
  at_most = omega (arith, p.at_most, q.at_most);
  at_least = λ room.
      let second : b.ticks + change_between b c ≤ c.ticks = q.at_least room in
      let first : a.ticks + change_between a b ≤ b.ticks = p.at_least (omega arith) in
      omega (arith, changed_trans a b c);
}

-- a greater bound
pub worked_within : (a b : KeptCounts) (m n : ℕ) → m ≤ n → Worked a b m → Worked a b n
worked_within a b m n le p = record { at_most = omega (arith, p.at_most); at_least = p.at_least }

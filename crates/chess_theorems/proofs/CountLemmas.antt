-- What a legal move does to the rights, the target and the two counters.
use Rattle.std.proofs.Common.{◌⊎◌, ◌≡◌, ℕ, ◌+◌, true, ◌||◌, List, [], ◌∷◌, Option, Some, None, is_some, refl, sym, ap, ◌∙◌, arith, inl, inr, if◌then◌else◌}
use Rattle.std.specs.List.{Contains}
use Rattle.std.proofs.lemmas.Bool.{and_parts, or_cases, cases_Bool, eqb-true}
use Rattle.chess_types.specs.declared.board.man.Colour.{Colour}
use Rattle.chess_types.specs.declared.board.man.Colour.TheVariants.{White, Black}
use Rattle.chess_types.specs.declared.board.man.Man.{Man}
use Rattle.chess_types.specs.declared.board.position.Wing.{Wing}
use Rattle.chess_types.specs.board.Men.{holds_pawn, opponent}
use Rattle.chess_types.specs.board.MoveParts.{MoveParts}
use Rattle.chess_types.specs.board.Position.{PositionParts, IsWellFormed, holds, man_on}
use Rattle.chess_types.specs.board.Pseudo.{is_target, midway}
use Rattle.chess_types.specs.board.After.{after, after_by, is_advance, number_after, target_after}
use Rattle.chess_types.specs.board.Legal.{legal_moves}
use Rattle.chess_types.specs.board.Lines.{play}
use Rattle.chess_types.specs.board.Repetition.{takes_target}
use Rattle.chess_types.proofs.MoveLemmas.{legal_pseudo, pseudo_man}
use Rattle.chess_play.proofs.Facts.{never}
use Rattle.chess_play.proofs.Setups.{untouched}
use Rattle.chess_moves.proofs.LegalLaws.{listed_legal}
use Rattle.chess_theorems.proofs.ListedLemmas.{stays_well}
use Rattle.chess_theorems.specs.DeadLaws.{AreListed}
use Rattle.chess_theorems.specs.MoveLaws.{black_moves}

-- the man who makes a listed move
mover : (p : PositionParts) (m : MoveParts) → Contains (legal_moves p) m → (man : Man) × (man_on p m.from ≡ Some man)
mover p m listed = pseudo_man p m (legal_pseudo p m (listed_legal p m listed).1)

-- and the position after it
then_by : (p : PositionParts) (m : MoveParts) (man : Man) → man_on p m.from ≡ Some man → after p m ≡ after_by p (Some man) m
unfolding after
then_by p m man here = ap (λ o. after_by p o m) here

-- a right that is held was held before
pub rights_are_lost : (p : PositionParts) (moves : List MoveParts) → IsWellFormed p → AreListed p moves → (c : Colour) (w : Wing) →
    holds (play p moves).rights c w ≡ true → holds p.rights c w ≡ true
rights_are_lost p [] well h c w right = right
rights_are_lost p (m ∷ moves) well h c w right =
    let (man, here) = mover p m h.0 in
    let held : holds (after p m).rights c w ≡ true = rights_are_lost (after p m) moves (stays_well p m well h.0) h.1 c w right in
    (untouched p c w m (sym (ap (λ (q : PositionParts). holds q.rights c w) (then_by p m man here)) ∙ held)).right

-- a target is the square that the move before passed over
target_is : (man : Man) (m : MoveParts) (t : ℕ) → is_target (target_after man m) t ≡ true → (is_advance man m ≡ true) × (midway m ≡ t)
target_is man m t h =
    elim (cases_Bool (is_advance man m)) [
      | inl advance ↦ (advance, eqb-true (midway m) t (rw advance at h))
      | inr other ↦ never (rw other at h)
    ]

captures : (q : PositionParts) (there : Option Man) (n : MoveParts) → takes_target q there n ≡ true → is_target q.target n.to ≡ true
captures q None n h = never h
captures q (Some man) n h =
    let a = and_parts _ _ h in
    (and_parts _ _ a.0).1

pub taken_at_once : (p : PositionParts) (m n : MoveParts) → IsWellFormed p → Contains (legal_moves p) m → Contains (legal_moves (after p m)) n →
    takes_target (after p m) (man_on (after p m) n.from) n ≡ true →
    (holds_pawn (man_on p m.from) ≡ true) × ((m.to ≡ m.from + 16) ⊎ (m.from ≡ m.to + 16)) × (midway m ≡ n.to)
taken_at_once p m n well listed next h =
    let (man, here) = mover p m listed in
    let t : is_target (target_after man m) n.to ≡ true =
    sym (ap (λ (q : PositionParts). is_target q.target n.to) (then_by p m man here)) ∙ captures (after p m) (man_on (after p m) n.from) n h in
    let (advance, over) = target_is man m n.to t in
    let a = and_parts _ _ advance in
    (ap holds_pawn here ∙ a.0, elim (or_cases _ _ a.1) [ inl up ↦ inl (eqb-true _ _ up) | inr down ↦ inr (eqb-true _ _ down) ], over)

-- the clock
pub clock_counts : (p : PositionParts) (m : MoveParts) → IsWellFormed p → Contains (legal_moves p) m →
    (after p m).clock ≡ (if holds_pawn (man_on p m.from) || is_some (man_on p m.to) then 0 else (p.clock + 1))
clock_counts p m well listed =
    let (man, here) = mover p m listed in
    ap (λ (q : PositionParts). q.clock) (then_by p m man here)
    ∙ ap (λ (o : Option Man). if holds_pawn o || is_some (man_on p m.to) then 0 else (p.clock + 1)) (sym here)

-- the number
pub number_counts : (p : PositionParts) (moves : List MoveParts) → IsWellFormed p → AreListed p moves →
    (play p moves).number ≡ p.number + black_moves p.side moves
number_counts p [] well h = omega arith
number_counts p (m ∷ moves) well h =
    let (man, here) = mover p m h.0 in
    let rest : (play (after p m) moves).number ≡ (after p m).number + black_moves (after p m).side moves =
    number_counts (after p m) moves (stays_well p m well h.0) h.1 in
    rest ∙ ap (λ (q : PositionParts). q.number + black_moves q.side moves) (then_by p m man here) ∙ one p.side p.number
  where
    one : (c : Colour) (number : ℕ) → number_after c number + black_moves (opponent c) moves ≡ number + black_moves c (m ∷ moves)
    one White number = refl
    one Black number = omega arith

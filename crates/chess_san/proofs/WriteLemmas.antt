-- What a move that is written needs: a man where it begins, and room for the counters after it.
use Rattle.std.proofs.Common.{◌≡◌, ◌<◌, ◌≤◌, true, Some, None, ap, sym, ◌∙◌, arith}
use Rattle.chess_types.specs.declared.board.man.Man.{Man}
use Rattle.chess_types.specs.board.MoveParts.{MoveParts}
use Rattle.chess_types.specs.board.Position.{PositionParts, man_on}
use Rattle.chess_types.specs.board.After.{after}
use Rattle.chess_types.specs.board.Legal.{is_legal}
use Rattle.chess_types.proofs.Counters.{clock_more, number_more}
use Rattle.chess_types.proofs.MoveLemmas.{pseudo_man, legal_pseudo}

-- a man stands where a legal move begins
pub man_there : (p : PositionParts) (m : MoveParts) → is_legal p m ≡ true → man_on p m.from ≡ None → ⊥
man_there p m h none =
    let (man, here) : (man : Man) × (man_on p m.from ≡ Some man) = pseudo_man p m (legal_pseudo p m h) in
    let e : None ≡ Some man = sym none ∙ here in
    cc

-- after it each counter is at most one more
pub clock_room : (p q r : PositionParts) (m : MoveParts) → q ≡ p → r ≡ after q m → p.clock < 1000000 → r.clock ≤ 1000000
clock_room p q r m same is low =
    let a : r.clock ≡ (after q m).clock = ap (λ (s : PositionParts). s.clock) is in
    let b : q.clock ≡ p.clock = ap (λ (s : PositionParts). s.clock) same in
    omega (arith, clock_more q m)

pub number_room : (p q r : PositionParts) (m : MoveParts) → q ≡ p → r ≡ after q m → p.number < 1000000 → r.number ≤ 1000000
number_room p q r m same is low =
    let a : r.number ≡ (after q m).number = ap (λ (s : PositionParts). s.number) is in
    let b : q.number ≡ p.number = ap (λ (s : PositionParts). s.number) same in
    omega (arith, number_more q m)

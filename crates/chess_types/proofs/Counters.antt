-- What a move adds to the halfmove clock and the fullmove number.
use Rattle.std.proofs.Common.{ℕ, ◌+◌, ◌≤◌, cond, Bool, true, false, Option, Some, None, arith}
use Rattle.chess_types.specs.declared.board.man.Colour.{Colour}
use Rattle.chess_types.specs.declared.board.man.Colour.TheVariants.{White, Black}
use Rattle.chess_types.specs.declared.board.man.Man.{Man}
use Rattle.chess_types.specs.board.MoveParts.{MoveParts}
use Rattle.chess_types.specs.board.Position.{PositionParts, man_on}
use Rattle.chess_types.specs.board.After.{after, after_by, number_after}

none_or_more : (b : Bool) (n : ℕ) → cond b 0 (n + 1) ≤ n + 1
none_or_more true n = omega arith
none_or_more false n = omega arith

number_by : (c : Colour) (n : ℕ) → number_after c n ≤ n + 1
number_by White n = omega arith
number_by Black n = omega arith

clock_by : (p : PositionParts) (there : Option Man) (m : MoveParts) → (after_by p there m).clock ≤ p.clock + 1
clock_by p None m = omega arith
clock_by p (Some man) m = none_or_more _ p.clock

number_there : (p : PositionParts) (there : Option Man) (m : MoveParts) → (after_by p there m).number ≤ p.number + 1
number_there p None m = omega arith
number_there p (Some man) m = number_by p.side p.number

-- at most one more each
pub clock_more : (p : PositionParts) (m : MoveParts) → (after p m).clock ≤ p.clock + 1
unfolding after
clock_more p m = clock_by p (man_on p m.from) m

pub number_more : (p : PositionParts) (m : MoveParts) → (after p m).number ≤ p.number + 1
unfolding after
number_more p m = number_there p (man_on p m.from) m

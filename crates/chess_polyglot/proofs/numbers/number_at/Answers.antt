use Rattle.std.proofs.Common.{◌≡◌, refl, ap, slice_index}
use Rattle.chess_polyglot.specs.declared.numbers.TheConstants.{NUMBERS}
use Rattle.chess_polyglot.specs.Numbers.{numbers}
use Rattle.chess_polyglot.proofs.numbers.number_at.Goals as goal

same : NUMBERS ≡ numbers
unfolding numbers
same = refl

pub returns : goal.returns
returns c = ap (λ list. slice_index list c.args.place) same

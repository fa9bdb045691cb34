use Rattle.std.proofs.Common.{◌≡◌, arith, rules, sym, ap, ◌∙◌, [], ◌^◌, ◌∷◌, ◌-◌, ◌*◌, ◌%◌, w64}
use Rattle.std.specs.Prelude.{bit_and}
use Rattle.std.specs.Int.{trailing_zeros}
use Rattle.std.proofs.lemmas.Grind.{common_steps}
use Rattle.chess_types.specs.board.Bits.{squares_of}
use Rattle.chess_types.proofs.BitLemmas.{squares_of_zero, squares_of-first}
use Rattle.chess_types.proofs.board.square_set.SquareSetIterIterator.next.Goals as goal

pub returns-then-self-eq0-clause-steps : goal.returns-then-self-eq0-clause-steps
returns-then-self-eq0-clause-steps c =
    let none : c.args.self.now ≡ [] = sym c.self.view_is ∙ ap squares_of c.if-self-eq0.true ∙ squares_of_zero in
    (none, none)

pub returns-clause-steps : goal.returns-clause-steps
returns-clause-steps c =
    let first = squares_of-first c.self.inside.bits c.from_index.result (omega arith) (omega arith) c.from_index.ensures in
    rw (← c.from_index.ensures) (sym c.self.view_is ∙ first.1)

pub returns-clause-goes : goal.returns-clause-goes
returns-clause-goes c =
    let first : c.args.self.now ≡ c.from_index.result ∷ squares_of (bit_and c.self.inside.bits (18446744073709551615 - 1 * 2 ^ (trailing_zeros w64 c.self.inside.bits) % 18446744073709551616)) = returns-clause-steps c in
    rw first (search (rules, common_steps))

use Rattle.std.proofs.Common.{◌≡◌, ℕ, true, ltb, refl, sym, ap, ◌∙◌}
use Rattle.std.specs.FinSet as set
use Rattle.std.proofs.Math.Bool.{and-true}
use Rattle.chess_types.specs.board.Squares.{squares}
use Rattle.chess_types.specs.board.Bits.{set_of, word_where}
use Rattle.chess_types.proofs.BitLemmas.{contains-word_where}
use Rattle.chess_types.proofs.board.square_set.SquareSet.all.Goals as goal

every : word_where (λ (s : ℕ). true) ≡ 18446744073709551615
unfolding word_where squares
every = refl

pub returns : goal.returns
returns c = λ s. ap (λ w. set.contains (set_of w) s) (sym every) ∙ contains-word_where (λ x. true) s ∙ and-true (ltb s 64)

use Rattle.std.proofs.Common.{◌&&◌, ap, ◌∙◌, arith}
use Rattle.std.proofs.lemmas.Bool.{lt-ltb}
use Rattle.chess_moves.specs.declared.in_line.TheConstants.{IN_LINE}
use Rattle.chess_moves.specs.steps.Guarded.{in_line}
use Rattle.chess_types.proofs.BitLemmas.{contains-table}
use Rattle.chess_moves.proofs.LineLemmas.{lines_are}
use Rattle.chess_moves.proofs.in_line.are_in_line.Goals as goal

pub returns : goal.returns
returns c =
    rw (c.contains.ensures, c.from_bits.ensures, c.index.ensures.value) (contains-table IN_LINE in_line c.args.a c.args.b lines_are (omega arith))
    ∙ ap (λ b. b && in_line c.args.a c.args.b) (lt-ltb c.args.b 64 (omega arith))

use Rattle.std.proofs.Common.{arith}
use Rattle.std.proofs.lemmas.Grind.{common_steps}
use Rattle.chess_fen.specs.Reading.{target_in}
use Rattle.chess_fen.proofs.FieldLemmas.{square_named, square_unknown}
use Rattle.chess_fen.proofs.target.read_target.Goals as goal

pub returns-in-Some : goal.returns-in-Some
unfolding target_in
returns-in-Some c =
    let square = square_named c.args.field.now c.in-Some.square (omega arith) c.in-Some.ensures.sound in
    grind (arith, common_steps, square)

pub returns-in-None : goal.returns-in-None
unfolding target_in
returns-in-None c =
    let square = square_unknown c.args.field.now c.in-None.ensures.complete in
    grind (arith, common_steps, square)

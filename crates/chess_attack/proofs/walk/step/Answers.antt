use Rattle.std.proofs.Common.{◌≡◌, ◌<◌, ◌∙◌, sym, arith}
use Rattle.chess_attack.specs.declared.way.Way.TheVariants.{Up, Down}
use Rattle.chess_attack.specs.steps.Halves.{half_length, stride, stepped}
use Rattle.chess_attack.proofs.Steps.{step_next, step_end}
use Rattle.chess_attack.proofs.walk.step.Goals as goal

pub returns-then-half_length-eq0-clause-end : goal.returns-then-half_length-eq0-clause-end
returns-then-half_length-eq0-clause-end c =
    step_end c.args.axis c.args.way c.args.at (omega arith) (sym c.half_length.ensures ∙ c.if-half_length-eq0.true)

pub returns-in-Up-clause-next : goal.returns-in-Up-clause-next
returns-in-Up-clause-next c =
    let more : 0 < half_length c.args.axis c.args.way c.args.at = omega arith in
    let there : c.from_index.result ≡ stepped Up c.args.at (stride c.args.axis) = omega arith in
    rw (there, c.in-Up.is) (step_next c.args.axis Up c.args.at (omega arith) (rw c.in-Up.is at more))

pub returns-in-Down-clause-next : goal.returns-in-Down-clause-next
returns-in-Down-clause-next c =
    let more : 0 < half_length c.args.axis c.args.way c.args.at = omega arith in
    let there : c.from_index-in-Down.result ≡ stepped Down c.args.at (stride c.args.axis) = omega arith in
    rw (there, c.in-Down.is) (step_next c.args.axis Down c.args.at (omega arith) (rw c.in-Down.is at more))

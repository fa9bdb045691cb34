use Rattle.std.proofs.Common.{◌≤◌, arith}
use Rattle.chess_fen.proofs.SetupLemmas.{good_men, setup_read}
use Rattle.chess_fen.proofs.FieldLemmas.{counter_small}
use Rattle.chess_fen.proofs.reader.read.Goals as goal

pub invariant_of-new : goal.invariant_of-new
invariant_of-new c =
    let good = good_men c.in_ok-fields.fields.placement.now c.in_ok-placement.placement c.in_ok-placement.ensures in
    let one : 1 ≤ c.max.result = omega (arith, c.max.ensures) in
    rw (c.kept_rights-rights.ensures, c.kept_target-target.ensures)
    (setup_read c.in_ok-placement.placement c.in_ok-side.side c.in_ok-rights.rights c.in_ok-target.target c.in_ok-clock.clock c.max.result good one)

pub returns-clause-counters : goal.returns-clause-counters
returns-clause-counters c =
    let clock = counter_small c.in_ok-fields.fields.clock.now c.in_ok-clock.clock c.in_ok-clock.ensures in
    let number = counter_small c.in_ok-fields.fields.number.now c.in_ok-number.number c.in_ok-number.ensures in
    rw c.new.ensures (omega arith, omega (arith, c.max.ensures))

use Rattle.std.proofs.Common.{refl, sym}
use Rattle.chess_types.specs.board.Cells.{board_of}
use Rattle.chess_types.specs.board.Faults.{setup_fault}
use Rattle.chess_types.proofs.FaultLemmas.{faultless}
use Rattle.chess_types.proofs.board.draft.Draft.setup.Goals as goal

pub returns-in-Err : goal.returns-in-Err
unfolding setup_fault
returns-in-Err c = rw (← c.self.view_is, c.in-Err.ensures.fault) refl

pub returns-in-Some : goal.returns-in-Some
unfolding setup_fault
returns-in-Some c =
    rw (← c.self.view_is, c.in-Ok.ensures.good, ← c.in-Ok.ensures.men, ← c.in-Some.ensures) refl

pub invariant_of-result : goal.invariant_of-result
invariant_of-result c =
    rw c.in-Ok.ensures.men
    (faultless (record {
      placement = board_of c.self.inside.men;
      side = c.self.inside.side;
      rights = c.self.inside.rights;
      target = c.self.inside.target;
      clock = c.self.inside.clock;
      number = c.self.inside.number;
    }) c.in-Ok.ensures.good (rw c.in-Ok.ensures.men at (sym c.in_default.ensures)))

pub returns : goal.returns
unfolding setup_fault
returns c =
    rw (← c.self.view_is, c.in-Ok.ensures.good, ← c.in-Ok.ensures.men, ← c.in_default.ensures) refl

use Rattle.std.proofs.Common.{◌≡◌, IfOk, sym, subst}
use Rattle.arbiter.specs.Cells.{row_text}
use Rattle.arbiter.specs.Collections.{Bad, row_of}
use Rattle.arbiter.specs.Rows.{Roster, fault_cells}
use Rattle.chess_salvage.specs.Salvaging.{found_in}
use Rattle.arbiter.proofs.judge.RowMaker.bad_row.Goals as goal

pub returns-in-None : goal.returns-in-None
returns-in-None c =
    subst (λ m. IfOk c.fault_row.result (λ row. row.items ≡ row_of c.args.self.now.asked c.args.place.number c.args.place.offset (Bad c.args.fault (found_in m) c.args.heading.now c.args.roster.now))) (sym c.in-None.is)
    (subst (λ (r : Roster). IfOk c.fault_row.result (λ row. row.items ≡ row_text c.args.self.now.asked.format (fault_cells c.args.place.number c.args.place.offset r c.args.heading.now c.args.fault))) c.roster.ensures c.fault_row.ensures)

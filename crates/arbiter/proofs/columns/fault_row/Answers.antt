use Rattle.std.proofs.Common.{◌≡◌, ◌∙◌, ◌++◌, IfOk, List, Some, ap, subst}
use Rattle.arbiter.specs.declared.cell.Cell as declared
use Rattle.arbiter.specs.Cells.{Cell, row_text}
use Rattle.arbiter.specs.Rows.{ending_cells, lost_cells, place_cells, roster_cells}
use Rattle.arbiter.specs.steps.Rosters.{read_roster}
use Rattle.arbiter.proofs.CellLemmas.{parts_are}
use Rattle.arbiter.proofs.columns.fault_row.Goals as goal

pub returns : goal.returns
returns c =
    subst (λ (cells : List Cell). IfOk c.row_bytes.result (λ row. row.items ≡ row_text c.args.format cells))
    (parts_are c.as_slice.result.now c.roster_cells.result c.lost_cells.result (place_cells c.args.place.number c.args.place.offset ++ roster_cells (read_roster c.args.roster)) (lost_cells c.args.heading.now.result ++ ending_cells (Some c.args.fault))
    (c.as_slice.ensures.value ∙ c.in_ok-extend_from_slice.ensures.items ∙ ap (λ (cells : List declared.Cell). cells ++ c.lost_cells.result) c.in_ok-cells.ensures.items) c.roster_cells.ensures
    (c.lost_cells.ensures ∙ ap (λ v. lost_cells v ++ ending_cells (Some c.args.fault)) c.result.ensures))
    c.row_bytes.ensures

use Rattle.std.proofs.Common.{◌≡◌, ◌∙◌, ◌++◌, IfOk, List, ℕ, ap, subst}
use Rattle.arbiter.specs.declared.cell.Cell as declared
use Rattle.arbiter.specs.Cells.{Cell, row_text}
use Rattle.arbiter.specs.Rows.{Roster, ending_cells, place_cells, roster_cells, roster_in}
use Rattle.arbiter.specs.steps.Reports.{report_cells}
use Rattle.chess_fen.specs.Writing.{written}
use Rattle.chess_pgn.specs.steps.GameCode.{tags_of}
use Rattle.arbiter.proofs.CellLemmas.{parts_are}
use Rattle.arbiter.proofs.columns.game_row.Goals as goal

pub returns : goal.returns
returns g c =
    subst (λ (cells : List Cell). IfOk c.row_bytes.result (λ row. row.items ≡ row_text c.args.format cells))
    (parts_are c.as_slice.result.now c.roster_cells.result c.line_cells.result (place_cells c.args.place.number c.args.place.offset ++ roster_cells (roster_in (tags_of c.args.game.now.tags)))
    (report_cells c.args.report.now c.args.start.now c.args.first.now (written c.args.report.now.last) c.args.said.heading.now c.args.said.is_unmarked ++ ending_cells c.args.said.fault)
    (c.as_slice.ensures.value ∙ c.in_ok-extend_from_slice.ensures.items ∙ ap (λ (cells : List declared.Cell). cells ++ c.line_cells.result) c.in_ok-cells.ensures.items)
    (c.roster_cells.ensures ∙ ap (λ (r : Roster). place_cells c.args.place.number c.args.place.offset ++ roster_cells r) c.roster_in.ensures)
    (c.line_cells.ensures ∙ ap (λ (t : List ℕ). report_cells c.args.report.now c.args.start.now c.args.first.now t c.args.said.heading.now c.args.said.is_unmarked ++ ending_cells c.args.said.fault) (c.as_str.ensures.value ∙ c.write-fen.ensures.bytes)))
    c.row_bytes.ensures

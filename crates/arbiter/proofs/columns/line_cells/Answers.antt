use Rattle.std.proofs.Common.{◌∙◌, Option, ap, codes, option_map, refl}
use Rattle.chess_types.specs.board.Outcome.{status_text}
use Rattle.chess_report.specs.declared.report.Over.{Over}
use Rattle.arbiter.specs.Cells.{Number, Text, Truth, maybe}
use Rattle.arbiter.specs.Rows.{is_another, is_changed}
use Rattle.arbiter.specs.steps.Reports.{move_by}
use Rattle.arbiter.proofs.CellLemmas.{ending_is, next}
use Rattle.arbiter.proofs.columns.line_cells.Goals as goal

pub returns : goal.returns
returns c =
    next c.start_fen.ensures (next (c.truth.ensures ∙ ap (λ b. (codes "fen_changed", Truth b)) (c.is_changed.ensures ∙ ap (λ v. is_changed v c.args.start.now) c.fen_tag.ensures))
    (next c.number.ensures (next (c.word.ensures ∙ ap (λ t. (codes "result", Text t)) c.marker.ensures.value)
    (next (c.any_text.ensures ∙ ap (λ v. (codes "result_tag", maybe Text v)) c.result.ensures)
    (next (c.truth-2.ensures ∙ ap (λ b. (codes "other_result", Truth b)) (c.is_another.ensures ∙ ap (λ v. is_another v c.args.report.now.marker) c.result-2.ensures))
    (next c.any_truth.ensures
    (next (c.word-2.ensures ∙ ap (λ t. (codes "status", Text t)) c.name.ensures.value)
    (next (c.any_word.ensures ∙ ap (λ v. (codes "winner", maybe Text v)) c.winner_text.ensures)
    (next (c.any_number.ensures ∙ ap (λ v. (codes "over_ply", maybe Number v)) (c.over_ply.ensures ∙ ap (λ (o : Option Over). option_map (λ o. o.ply) o) c.played_on-over.ensures))
    (next (c.move_leading_to.ensures ∙ ap (λ v. (codes "over_move", maybe Number (move_by c.args.start.now v))) (c.over_ply-2.ensures ∙ ap (λ (o : Option Over). option_map (λ o. o.ply) o) c.played_on-over.ensures))
    (next (c.any_word-2.ensures ∙ ap (λ v. (codes "over_why", maybe Text v)) (c.over_why.ensures ∙ ap (λ (o : Option Over). option_map (λ o. status_text o.why) o) c.played_on-over.ensures))
    (next c.any_number-2.ensures (next c.move_leading_to-2.ensures (next c.any_number-3.ensures (next c.move_leading_to-3.ensures
    (next c.number-2.ensures (next c.number-3.ensures (next c.truth-3.ensures
    (next (c.truth-4.ensures ∙ ap (λ b. (codes "left_open", Truth b)) c.is_left_open.ensures)
    (next (c.truth-5.ensures ∙ ap (λ b. (codes "bare_king_wins", Truth b)) c.wins_bare.ensures) (next c.word-3.ensures (next c.fault_place.ensures (next c.fault_kind.ensures refl) ∙ ending_is c.args.said.fault))))))))))))))))))))))

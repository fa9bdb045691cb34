use Rattle.std.proofs.Common.{◌∙◌, ap, ◌++◌}
use Rattle.chess_types.specs.board.Lines.{last}
use Rattle.chess_types.specs.board.Position.{PositionParts}
use Rattle.chess_pgn.proofs.KnownLemmas.{text_whole}
use Rattle.chess_pgn.proofs.TaskLemmas.{spoken_whole}
use Rattle.chess_pgn.proofs.speller.make.Goals as goal

pub returns-clause-adds : goal.returns-clause-adds
returns-clause-adds g c =
    let line = c.args.line.now.line in
    let setup = c.setup.inside in
    let here = c.setup.view_is ∙ c.position-setup.ensures.value ∙ c.live.ensures.position ∙ ap last c.reserve.ensures.line in
    let text = c.as_bytes.ensures.value ∙ c.deref.ensures.0 in
    let mark = c.as_bytes-2.ensures.value in
    let whole = text_whole line c.reserve.new.self.line c.write_unmarked-text.new.self.line c.push_prepared.new.self.line c.args.played c.write_unmarked-text.result.bytes c.write_mark.result.now c.reserve.ensures.line c.write_unmarked-text.ensures.as_before.line
    c.push_prepared.ensures.line c.write_unmarked-text.ensures.value c.write_mark.ensures.value in
    spoken_whole c.args.lines.now c.push_spoken.new.lines c.push.new.self c.args.opening.now c.args.due setup.side setup.number c.as_bytes.result.now c.as_bytes-2.result.now (last line) c.args.played
    (ap (λ (p : PositionParts). p.side) here) (ap (λ (p : PositionParts). p.number) here) ((λ i. text i ++ mark i) ∙ whole) c.in_ok-push_spoken.ensures c.in_ok-push.ensures

use Rattle.std.proofs.Common.{◌≡◌, ap, [], ◌∷◌, ◌∙◌, sym, true, drop, min, length}
use Rattle.std.specs.Prelude.{if◌then◌else◌}
use Rattle.chess_tree.specs.Comments.{normalised}
use Rattle.chess_types.specs.board.Legal.{is_legal}
use Rattle.chess_types.specs.board.Lines.{Line, last}
use Rattle.chess_san.specs.Naming.{san_reading}
use Rattle.chess_tree.specs.GameTree.{TreeParts, line_to}
use Rattle.chess_pgn.specs.Grammar as grammar
use Rattle.chess_pgn.specs.steps.Readings.{said_here}
use Rattle.chess_pgn.proofs.ExceedLemmas.{legal_of, ok_of, room_exceeds}
use Rattle.chess_pgn.proofs.StepLemmas.{text_goes}
use mathlib.Core.Logic.{inl}
use Rattle.chess_pgn.proofs.RefuseLemmas.{refuses_room, text_fails}
use Rattle.chess_pgn.proofs.reader.moves.Moves.word.Goals as goal

pub returns-clause-steps : goal.returns-clause-steps
returns-clause-steps g c = λ s h.
    let r = c.args.self.now in
    let said = normalised (drop (min r.from (length r.comments.items)) r.comments.items) in
    rw ((ok_of c.add.result c.in_default-add.not-Err c.add.ensures.played), (ok_of c.add.result c.in_default-add.not-Err c.add.ensures.interrupted), c.in_ok-note_if.ensures.interrupted, (ok_of c.add.result c.in_default-add.not-Err c.add.ensures.comments), (ok_of c.add.result c.in_default-add.not-Err c.add.ensures.from), c.in_ok-note_if.ensures.from)
    (text_goes r.analysis c.note_if.new.self.analysis c.add.new.self.analysis r.interrupted.items r.played c.is_after_move.result r.comments.items c.note_if.new.self.comments.items r.from c.args.text.now c.in-Ok.m
    (sym c.in_ok-m.ensures.value ∙ c.in-Ok.is) c.is_after_move.ensures
    (c.in_ok-note_if.ensures.analysis ∙ ap (λ (z : TreeParts). if c.is_after_move.result then said_here said z else z) c.read_move.ensures.as_before)
    c.in_ok-note_if.ensures.comments (ok_of c.add.result c.in_default-add.not-Err c.add.ensures.analysis) (ok_of c.add.result c.in_default-add.not-Err c.add.ensures.line) s h)

pub returns-in_default-clause-refuses : goal.returns-in_default-clause-refuses
returns-in_default-clause-refuses g c =
    let r = c.args.self.now in
    rw c.at_place.ensures (λ s h es. inl (text_fails r.analysis r.interrupted.items r.played r.comments.items r.from c.args.text.now (λ m e. c.in_default.not-Ok m (c.in_ok-m.ensures.value ∙ e)) s h es))

pub returns-in-Err-clause-refuses : goal.returns-in-Err-clause-refuses
returns-in-Err-clause-refuses g c =
    let r = c.args.self.now in
    refuses_room (grammar.Text c.args.text.now ∷ []) c.in-Err.fault.kind r
    (room_exceeds r.analysis c.note_if.new.self.analysis r.interrupted.items r.played c.is_after_move.result r.comments.items r.from c.args.text.now (normalised (drop (min r.from (length r.comments.items)) r.comments.items)) c.in-Ok.m c.in-Err.fault.kind
    (c.in_ok-note_if.ensures.analysis ∙ ap (λ (z : TreeParts). if c.is_after_move.result then said_here (normalised (drop (min r.from (length r.comments.items)) r.comments.items)) z else z) c.read_move.ensures.as_before)
    (legal_of c.in_ok-m.field-0 c.in-Ok.m (λ m. is_legal (last (line_to r.analysis)) m ≡ true) c.in_ok-m.ensures.legal c.in-Ok.is) c.in-Err.ensures.room)

pub add-requires : goal.add-requires
add-requires g c =
    let r = c.args.self.now in
    let here : line_to c.note_if.new.self.analysis ≡ line_to r.analysis = c.in_ok-note_if.ensures.line ∙ ap line_to c.read_move.ensures.as_before in
    record {
      legal = ap (λ (z : Line). is_legal (last z) c.in-Ok.m) here ∙ legal_of c.in_ok-m.field-0 c.in-Ok.m (λ m. is_legal (last (line_to r.analysis)) m ≡ true) c.in_ok-m.ensures.legal c.in-Ok.is;
      read = ap (λ (z : Line). san_reading (last z) c.args.text.now) here ∙ (sym c.in_ok-m.ensures.value ∙ c.in-Ok.is);
    }

use Rattle.std.proofs.Common.{rules, ap, ◌∙◌, Err}
use Rattle.std.specs.Prelude.{Ok}
use Rattle.chess_types.specs.board.Lines.{Line, extended}
use Rattle.chess_draws.specs.declared.fault.LineFault.{LineFault}
use Rattle.chess_tree.proofs.AnalysisLemmas.{add_done, add_long, add_no_room, add_shallow, answer_number, kept_add, pushed_done, pushed_long, pushed_no_room, still_legal}
use Rattle.chess_tree.proofs.analysis.AnalysisWith.add_legal.Goals as goal

pub returns-in-Err-TooLong : goal.returns-in-Err-TooLong
returns-in-Err-TooLong g c =
    let facts = pushed_long _ _ _ _ (c.make_room.ensures.push c.args.m (still_legal _ _ _ c.self.invariant c.self.view_is c.args.m c.requires.legal)) (ap answer_number c.in-Err-TooLong.is ∙ ap (λ (f : LineFault). answer_number (Err f)) c.in-Err-TooLong.field-0-is) in
    record { answer = rw (← c.self.view_is) (add_long _ _ c.self.invariant c.args.m facts); ok = tt; line = tt; err = search rules }

pub returns-in-Err-Memory : goal.returns-in-Err-Memory
returns-in-Err-Memory g c =
    let facts = pushed_no_room _ _ _ _ (c.make_room.ensures.push c.args.m (still_legal _ _ _ c.self.invariant c.self.view_is c.args.m c.requires.legal)) (ap answer_number c.in-Err-Memory.is ∙ ap (λ (f : LineFault). answer_number (Err f)) c.in-Err-Memory.field-0-is) in
    record { answer = rw (← c.self.view_is) (add_no_room _ _ c.self.invariant c.args.m facts _ c.without_room.ensures); ok = tt; line = tt; err = search rules }

pub grow-requires-clause-deep : goal.grow-requires-clause-deep
grow-requires-clause-deep g c =
    let facts = pushed_done _ _ _ _ (c.make_room.ensures.push c.args.m (still_legal _ _ _ c.self.invariant c.self.view_is c.args.m c.requires.legal)) (ap answer_number c.in-Ok.is) in
    add_shallow _ _ c.self.invariant c.args.m facts.1

pub returns-in-Err : goal.returns-in-Err
returns-in-Err g c =
    let facts = pushed_done _ _ _ _ (c.make_room.ensures.push c.args.m (still_legal _ _ _ c.self.invariant c.self.view_is c.args.m c.requires.legal)) (ap answer_number c.in-Ok.is) in
    record { answer = rw (← c.self.view_is) (add_done _ _ c.self.invariant c.args.m facts (Err c.in-Err.fault) c.in-Err.ensures.answer); ok = tt; line = tt; err = search rules }

pub invariant_of-self-2 : goal.invariant_of-self-2
invariant_of-self-2 g c =
    let facts = pushed_done _ _ _ _ (c.make_room.ensures.push c.args.m (still_legal _ _ _ c.self.invariant c.self.view_is c.args.m c.requires.legal)) (ap answer_number c.in-Ok.is) in
    kept_add _ _ c.self.invariant c.args.m _ _ c.make_room.new.self.room facts c.in_default.ensures.answer c.in_default.ensures.ok c.in-Ok.ensures.ready c.make_room.ensures.room
    (c.push_prepared.ensures.line ∙ ap (λ (l : Line). extended l c.args.m) c.make_room.ensures.line) c.push_prepared.ensures.room c.push_prepared.ensures.looked

pub returns : goal.returns
returns g c =
    let facts = pushed_done _ _ _ _ (c.make_room.ensures.push c.args.m (still_legal _ _ _ c.self.invariant c.self.view_is c.args.m c.requires.legal)) (ap answer_number c.in-Ok.is) in
    record { answer = rw (← c.self.view_is) (add_done _ _ c.self.invariant c.args.m facts (Ok tt) c.in_default.ensures.answer); ok = search rules; line = search rules; err = tt }

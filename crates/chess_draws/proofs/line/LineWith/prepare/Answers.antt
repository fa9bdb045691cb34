use Rattle.std.proofs.Common.{refl, sym, inl, subst}
use Rattle.chess_draws.specs.LineParts.{LineParts}
use Rattle.chess_draws.specs.Pushes.{AnswersPush}
use Rattle.chess_draws.proofs.LineLemmas.{can_ask, legal_last}
use Rattle.chess_draws.proofs.AnswerLemmas.{answer_illegal, when_ok}
use Rattle.chess_draws.proofs.line.LineWith.prepare.Goals as goal

pub is_legal-requires : goal.is_legal-requires
is_legal-requires g c = can_ask c.self.invariant

pub returns-then-not-is_legal-clause-answer : goal.returns-then-not-is_legal-clause-answer
returns-then-not-is_legal-clause-answer g c =
    inl (sym (answer_illegal c.args.self.now.line c.args.m
    (legal_last c.self.invariant.line c.self.view_is c.args.m c.is_legal.ensures.value c.if-not-is_legal.true)))

pub returns-clause-answer : goal.returns-clause-answer
returns-clause-answer g c =
    subst (λ (l : LineParts). AnswersPush l c.args.m c.make_room.result) c.self.view_is
    (c.make_room.ensures.push c.args.m (legal_last {looked = 0} {room = 0} {compared = 0} c.self.invariant.line refl c.args.m c.is_legal.ensures.value c.if-not-is_legal.false))

pub returns-clause-legal : goal.returns-clause-legal
returns-clause-legal g c =
    when_ok c.make_room.result (legal_last c.self.invariant.line c.self.view_is c.args.m c.is_legal.ensures.value c.if-not-is_legal.false)

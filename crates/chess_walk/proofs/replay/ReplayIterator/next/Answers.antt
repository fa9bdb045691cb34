use Rattle.std.proofs.Common.{rules, ◌≡◌, ◌+◌, ◌<◌, ◌≤◌, ◌∷◌, Option, Some, IfSome, length, refl, sym, ap, subst, ◌∙◌, arith}
use Rattle.chess_types.specs.board.MoveParts.{MoveParts}
use Rattle.chess_types.specs.board.After.{after}
use Rattle.chess_types.specs.board.Lines.{Line, last}
use Rattle.chess_types.proofs.PlayLaws.{last_extended}
use Rattle.chess_san.specs.Writing.{san}
use Rattle.chess_walk.specs.steps.Lines.{AreReplayable, before_move, replayed}
use Rattle.chess_walk.specs.steps.Todos.{seen}
use Rattle.chess_walk.proofs.ReplayLemmas.{before_short, replayed_long, stepped}
use Rattle.chess_walk.proofs.replay.ReplayIterator.next.Given.{Over}
use Rattle.chess_walk.proofs.replay.ReplayIterator.next.Goals.{After-go_before}
use Rattle.chess_walk.proofs.replay.ReplayIterator.next.Goals as goal

pub returns-in-Err-clause-goes : goal.returns-in-Err-clause-goes
returns-in-Err-clause-goes g c =
    let fewer : length c.next.new.self < length c.self.inside.walk = (c.in_ok-visit.ensures.goes.on tt).2 in
    let now = replayed_long c.self.inside.line.line c.next.new.self in
    let then = replayed_long c.self.inside.line.line c.self.inside.walk in
    let was : length (replayed c.self.inside.line.line c.self.inside.walk) ≡ length c.args.self.now = ap length c.self.view_is in
    record { on = λ _. (tt, tt, omega arith); keeps = tt; rests = λ _. tt }

-- the line goes back to the visit's move, and has room for it
short : (g : Over) (c : After-go_before g) →
    (length c.go_before.new.line.line.moves < 20000) × (length c.go_before.new.line.line.moves ≤ length c.self.inside.line.line.moves + 1)
short g c =
    let line = c.self.inside.line.line in
    let v = c.in-Ok.visit in
    let came : c.self.inside.walk ≡ seen v ∷ c.next.new.self = rw c.in-Ok.is at c.in_ok-visit.ensures.steps in
    let ready : AreReplayable line (seen v ∷ c.next.new.self) = subst (AreReplayable line) came c.self.invariant.0 in
    let is : c.go_before.new.line.line ≡ before_move line v.depth v.again = c.go_before.ensures.line ∙ ap (λ (l : Line). before_move l v.depth v.again) c.reserve.ensures.line in
    subst (λ (l : Line). (length l.moves < 20000) × (length l.moves ≤ length line.moves + 1)) (sym is) (before_short line v.depth v.again ready.0.deep ready.0.few ready.0.again)

pub make-san-requires-clause-few : goal.make-san-requires-clause-few
make-san-requires-clause-few g c = omega (arith, (short g (goal.at.make-san-requires-clause-few g c).After-go_before).0)

pub make-san-requires-clause-room : goal.make-san-requires-clause-room
make-san-requires-clause-room g c =
    let room : length c.self.inside.line.line.moves + 2 ≤ c.reserve.new.self.room = search rules in
    omega (arith, (short g (goal.at.make-san-requires-clause-room g c).After-go_before).1, room, c.go_before.ensures.room)

pub returns-clause-steps : goal.returns-clause-steps
returns-clause-steps g c =
    let line = c.self.inside.line.line in
    let v = c.in-Ok.visit in
    let m = c.in-Some.m in
    let before = c.go_before.new.line.line in
    let came : c.self.inside.walk ≡ seen v ∷ c.next.new.self = rw c.in-Ok.is at c.in_ok-visit.ensures.steps in
    let is : before ≡ before_move line v.depth v.again = c.go_before.ensures.line ∙ ap (λ (l : Line). before_move l v.depth v.again) c.reserve.ensures.line in
    let there : v.node.move ≡ Some m = sym c.move_at.ensures ∙ c.in-Some.is in (
      record { before = before_move line v.depth v.again; visit = seen v },
      sym c.self.view_is ∙ ap (replayed line) came ∙ stepped line before c.make-san.new.line.line (seen v) m c.next.new.self is there c.make-san.ensures.line,
      record {
        depth_is = refl;
        level_is = refl;
        begins_is = refl;
        node_is = refl;
        text_is = subst (λ (o : Option MoveParts). IfSome o (λ m. c.make-san.result.bytes ≡ san (last (before_move line v.depth v.again)) m)) (sym there)
            (c.make-san.ensures.text ∙ ap (λ (l : Line). san (last l) m) is);
        position_is = subst (λ (o : Option MoveParts). IfSome o (λ m. c.position-position.result ≡ after (last (before_move line v.depth v.again)) m)) (sym there)
            (c.position-position.ensures.value ∙ ap last c.make-san.ensures.line ∙ last_extended before m ∙ ap (λ (l : Line). after (last l) m) is);
      },
    )

use Rattle.std.proofs.Common.{◌≡◌, refl, sym, ◌∙◌, arith}
use Rattle.chess_types.specs.board.Attack.{slides, slides_to}
use Rattle.chess_attack.proofs.Sighted.{slides_half}
use Rattle.chess_attack.proofs.Slides.{slides_off}
use Rattle.chess_attack.proofs.sight.slides_there.Goals as goal

pub returns-then-slides : goal.returns-then-slides
returns-then-slides c =
    let along : slides_to c.args.kind c.args.from c.args.to ≡ slides c.args.kind c.in-Some.axis =
    slides_half c.args.kind c.in-Some.axis c.in-Some.way c.args.from c.args.to (omega arith) (omega arith) c.in-Some.ensures.found in
    rw (along ∙ sym c.if-slides.ensures) c.is_clear_along.ensures

pub returns-else-slides : goal.returns-else-slides
returns-else-slides c =
    let along : slides_to c.args.kind c.args.from c.args.to ≡ slides c.args.kind c.in-Some.axis =
    slides_half c.args.kind c.in-Some.axis c.in-Some.way c.args.from c.args.to (omega arith) (omega arith) c.in-Some.ensures.found in
    rw (along ∙ sym c.if-slides.ensures) c.if-slides.false

pub returns-in-None : goal.returns-in-None
returns-in-None c = rw (slides_off c.args.kind c.args.from c.args.to c.in-None.ensures.none) refl

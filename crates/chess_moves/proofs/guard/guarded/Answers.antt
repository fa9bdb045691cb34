use Rattle.std.proofs.Common.{◌≡◌, ◌&&◌, false, sym, ap, ◌∙◌, arith}
use Rattle.std.proofs.Math.Bool.{and-true}
use Rattle.std.specs.FinSet.{contains, contains-intersection}
use Rattle.std.proofs.lemmas.Cmp.{nat_cmp_total}
use Rattle.chess_types.specs.board.Position.{PositionParts, man_on}
use Rattle.chess_attack.specs.Pins.{keeps_line, permits, is_pinned}
use Rattle.chess_attack.proofs.PinLines.{unpinned}
use Rattle.chess_moves.proofs.guard.guarded.Goals as goal

pub returns-then-not-contains : goal.returns-then-not-contains
returns-then-not-contains g c = λ to ht.
    let p : PositionParts = c.args.live.now.position in
    let k = c.args.guard.now.king in
    let free : is_pinned (man_on p) p.side c.args.from ≡ false =
    sym (c.requires.guard.pinned c.args.from (omega arith)) ∙ sym c.contains.ensures ∙ c.if-not-contains.true in
    c.requires.guard.check_mask to ht
    ∙ sym (rw (unpinned (man_on p) p.side c.args.from k to c.requires.mine c.requires.other free) (and-true (permits (man_on p) p.side k to)))

pub returns : goal.returns
returns g c = λ to ht.
    let p : PositionParts = c.args.live.now.position in
    let k = c.args.guard.now.king in
    let line : contains c.pin_line-line.result to ≡ keeps_line (man_on p) p.side c.args.from k to =
    c.pin_line-line.ensures to ht ∙ ap (λ (q : PositionParts). keeps_line (man_on q) q.side c.args.from k to) (c.setup.view_is ∙ c.position-setup.ensures.value) in
    ap (λ s. contains s to) c.intersection.ensures
    ∙ contains-intersection nat_cmp_total c.args.guard.now.check_mask c.pin_line-line.result to
    ∙ (λ i. c.requires.guard.check_mask to ht i && line i)

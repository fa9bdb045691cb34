use Rattle.std.proofs.Common.{◌≡◌, ◌++◌, ℕ, drop, length, map, ap, ◌∙◌, sym, subst, arith, rules}
use Rattle.std.proofs.lemmas.List.{get_or-map, length-map}
use Rattle.chess_c.specs.Moves.{move_shown}
use Rattle.chess_c.proofs.PutLemmas.{PutSoFar, put_start, put_on, put_end}
use Rattle.chess_c.proofs.moves.put_moves.Goals as goal

pub loop-i-init : goal.loop-i-init
loop-i-init c = put_start _ _

pub loop-i-preserved : goal.loop-i-preserved
loop-i-preserved c =
    let values = map move_shown c.args.moves.now in
    let many : length values ≡ length c.args.moves.now = length-map c.args.moves.now move_shown in
    put_on values c.args.room.now c.loop-i.room c.loop-i.i c.of.result (omega (arith, many)) (omega (arith, many))
    (c.of.ensures ∙ ap move_shown (search rules) ∙ sym (get_or-map move_shown c.args.moves.now c.loop-i.i c.index-moves-i.result c.of.result c.loop-i-test.true)) c.loop-i.invariant

pub returns : goal.returns
returns c =
    let values = map move_shown c.args.moves.now in
    let many : length values ≡ length c.args.moves.now = length-map c.args.moves.now move_shown in
    let at : c.loop-i.i ≡ length values = omega (arith, many) in
    subst (λ (n : ℕ). c.loop-i.room ≡ values ++ drop n c.args.room.now) many (put_end values c.args.room.now c.loop-i.room (subst (PutSoFar values c.args.room.now c.loop-i.room) at c.loop-i.invariant))

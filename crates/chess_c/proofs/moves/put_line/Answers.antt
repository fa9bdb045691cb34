use Rattle.std.proofs.Common.{◌≡◌, ◌++◌, ℕ, zero, suc, List, [], ◌∷◌, Some, drop, length, map, ap, ◌∙◌, sym, subst, arith}
use Rattle.std.specs.Prelude.{get_or, slice_get, unwrap_or}
use Rattle.std.proofs.lemmas.List.{length-map}
use Rattle.std.proofs.lemmas.Option.{none-some}
use Rattle.chess_c.specs.Moves.{move_shown}
use Rattle.chess_c.proofs.PutLemmas.{PutSoFar, put_start, put_on, put_end}
use Rattle.chess_c.proofs.moves.put_line.Goals as goal

at_place : {X Y : Type 0} → (f : X → Y) → (xs : List X) → (i : ℕ) → (x : X) → (y : Y) → slice_get xs i ≡ Some x → get_or (map f xs) i y ≡ f x
at_place f [] i x y e = absurd (none-some x e)
at_place f (z ∷ xs) zero x y e = ap (λ o. f (unwrap_or o z)) e
at_place f (z ∷ xs) (suc i) x y e = at_place f xs i x y e

pub loop-ply-init : goal.loop-ply-init
loop-ply-init c = put_start _ _

pub loop-ply-preserved : goal.loop-ply-preserved
loop-ply-preserved c =
    let moves = c.args.line.now.line.moves in
    let values = map move_shown moves in
    let many : length values ≡ length moves = length-map moves move_shown in
    put_on values c.args.room.now c.loop-ply.room c.loop-ply.ply c.of.result (omega (arith, many, c.plies-ply-end.ensures.value, c.loop-ply-test.true)) (omega (arith, many, c.requires.room))
    (c.of.ensures ∙ sym (at_place move_shown moves c.loop-ply.ply c.in-Some.m c.of.result (sym c.played.ensures.value ∙ c.in-Some.is))) c.loop-ply.invariant

pub returns : goal.returns
returns c =
    let moves = c.args.line.now.line.moves in
    let values = map move_shown moves in
    let many : length values ≡ length moves = length-map moves move_shown in
    let at : c.loop-ply.ply ≡ length values = omega (arith, many, c.plies-ply-end.ensures.value) in
    subst (λ (n : ℕ). c.loop-ply.room ≡ values ++ drop n c.args.room.now) many (put_end values c.args.room.now c.loop-ply.room (subst (PutSoFar values c.args.room.now c.loop-ply.room) at c.loop-ply.invariant))

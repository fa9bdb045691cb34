use Rattle.std.proofs.Common.{◌≡◌, List, ℕ, [], ◌∷◌, ◌++◌, ◌+◌, length, Some, map, ap, sym, ◌∙◌, append_assoc, append-nil, arith}
use Rattle.std.specs.Prelude.{Vec, slice_get}
use Rattle.std.specs.Borrow.{Bor}
use Rattle.std.proofs.lemmas.List.{length-append}
use Rattle.chess_pgn.specs.steps.OtherCode.{shown}
use Rattle.chess_bindings.proofs.HeadingLemmas.{name_after, no_name}
use Rattle.chess_bindings.proofs.heading.name_in.Goals as goal

pub loop-name-preserved : goal.loop-name-preserved
loop-name-preserved g c =
    let done = c.loop-name.invariant.0 in
    let e : Vec ℕ (Bor g.row.A.Denot) × Vec ℕ (Bor g.row.A.Denot) = (c.in-Some.name.now, c.in-Some.field-0-1.now) in
    let left = c.next.new.self in
    let more : length (done ++ e ∷ []) ≡ length done + 1 = length-append done (e ∷ []) in (
      done ++ e ∷ [],
      c.loop-name.invariant.1 ∙ ap (λ (es : List (Vec ℕ (Bor g.row.A.Denot) × Vec ℕ (Bor g.row.A.Denot))). shown (done ++ es)) c.in-Some.ensures.steps ∙ ap shown (sym (append_assoc done (e ∷ []) left)),
      omega (arith, more, c.loop-name.invariant.2, c.if-left-eq0.false),
    )

pub returns-then-left-eq0 : goal.returns-then-left-eq0
returns-then-left-eq0 g c =
    let done = c.loop-name.invariant.0 in
    let e : Vec ℕ (Bor g.row.A.Denot) × Vec ℕ (Bor g.row.A.Denot) = (c.in-Some.name.now, c.in-Some.field-0-1.now) in
    let others = c.loop-name.invariant.1 ∙ ap (λ (es : List (Vec ℕ (Bor g.row.A.Denot) × Vec ℕ (Bor g.row.A.Denot))). shown (done ++ es)) c.in-Some.ensures.steps in
    let at : length done ≡ c.args.place = omega (arith, c.loop-name.invariant.2, c.if-left-eq0.true) in
    ap (λ (text : List ℕ). Some text) c.as_slice.ensures.value ∙ sym (name_after done e c.next.new.self)
    ∙ (λ i. slice_get (map (λ tag. tag.0) (sym others i)) (at i))

pub returns : goal.returns
returns g c =
    let done = c.loop-name.invariant.0 in
    let others = c.loop-name.invariant.1 ∙ ap (λ (es : List (Vec ℕ (Bor g.row.A.Denot) × Vec ℕ (Bor g.row.A.Denot))). shown (done ++ es)) c.in-None.ensures.steps.0 ∙ ap shown (append-nil done) in
    sym (no_name done c.args.place (omega (arith, c.loop-name.invariant.2))) ∙ ap (λ tags. slice_get (map (λ tag. tag.0) tags) c.args.place) (sym others)

use Rattle.std.proofs.Common.{◌≡◌, List, ℕ, [], ◌∷◌, ◌++◌, ap, sym, ◌∙◌, append_assoc}
use Rattle.std.specs.Prelude.{Vec, option_map}
use Rattle.std.specs.Borrow.{Bor}
use Rattle.chess_pgn.specs.steps.OtherCode.{shown}
use Rattle.chess_pgn.proofs.GameLemmas.{one_text, others_more}
use Rattle.chess_pgn.proofs.writer.push_others.Goals as goal

pub loop-name-preserved : goal.loop-name-preserved
loop-name-preserved g c =
    let done = c.loop-name.invariant.0 in
    let e : Vec ℕ (Bor g.row.A.Denot) × Vec ℕ (Bor g.row.A.Denot) = (c.in-Some.name.now, c.in-Some.value.now) in
    let left = c.next.new.self in
    let from = c.args.from.now in
    let to = option_map (λ (next : Bor (List ℕ)). next.now) c.args.to in
    let mid = c.loop-name.text.items in
    let new = c.push_within.new.text.items in
    let pushed : new ≡ mid ++ one_text from to e.0.items e.1.items =
    c.in_ok-push_within.ensures ∙ ap (λ (x : List ℕ). mid ++ one_text from to x c.as_slice-in-loop-name.result.now) c.as_slice.ensures.value
    ∙ ap (λ (x : List ℕ). mid ++ one_text from to e.0.items x) c.as_slice-in-loop-name.ensures.value in (
      done ++ e ∷ [],
      c.loop-name.invariant.1 ∙ ap (λ (es : List (Vec ℕ (Bor g.row.A.Denot) × Vec ℕ (Bor g.row.A.Denot))). shown (done ++ es)) c.in-Some.ensures.steps ∙ ap shown (sym (append_assoc done (e ∷ []) left)),
      others_more from to c.args.text.now.items mid new done e c.loop-name.invariant.2 pushed,
    )

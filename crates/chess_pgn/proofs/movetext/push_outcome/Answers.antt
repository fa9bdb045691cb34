use Rattle.std.proofs.Common.{List, ℕ, ◌++◌, ◌∙◌, ap, codes}
use Rattle.chess_items.specs.Markers.{outcome_text}
use Rattle.chess_pgn.proofs.AddLemmas.{adds_last}
use Rattle.chess_pgn.proofs.movetext.push_outcome.Goals as goal

pub returns : goal.returns
returns g c =
    adds_last c.push-2.result c.args.lines.now c.push.new.self c.push-2.new.self (codes " ") c.as_bytes.result.now (codes " " ++ outcome_text c.args.outcome)
    (ap (λ (x : List ℕ). codes " " ++ x) (c.as_bytes.ensures.value ∙ c.marker.ensures.value)) c.in_ok-push.ensures c.push-2.ensures

use Rattle.std.proofs.Common.{◌∙◌, ap, ◌++◌}
use Rattle.chess_types.specs.board.Lines.{last}
use Rattle.chess_san.specs.Writing.{san}
use Rattle.chess_pgn.specs.Written.{number_text}
use Rattle.chess_pgn.specs.steps.KnownTexts.{line_at}
use Rattle.chess_pgn.proofs.AddLemmas.{adds_same}
use Rattle.chess_pgn.proofs.speller.follow.Goals as goal

pub returns-clause-adds : goal.returns-clause-adds
returns-clause-adds g c =
    let p = last (line_at c.args.texts.now c.args.place.now) in
    let known = c.in-Some.ensures.known in
    let text = c.as_bytes.ensures.value ∙ c.deref.ensures.0 ∙ known.text ∙ ap (san p) c.in-Some.ensures.played in
    adds_same c.args.lines.now c.push_spoken.new.lines _ _ (λ i. c.args.opening.now ++ (number_text c.args.due (known.side i) (known.number i) ++ text i)) c.in_ok-push_spoken.ensures

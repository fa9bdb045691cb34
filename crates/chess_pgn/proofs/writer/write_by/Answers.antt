use Rattle.std.proofs.Common.{List, ℕ, [], ◌≡◌, ◌∷◌, ◌++◌, ◌∙◌, ap}
use Rattle.chess_pgn.specs.Layout.{in_lines}
use Rattle.chess_pgn.specs.Written.{movetext, tags_text}
use Rattle.chess_pgn.specs.steps.GameCode.{tags_of}
use Rattle.chess_pgn.proofs.GameLemmas.{movetext_words}
use Rattle.chess_pgn.proofs.writer.write_by.Goals as goal

pub returns : goal.returns
returns g c =
    let tree = c.args.tree.now.tree in
    let outcome = c.args.outcome in
    let given = tags_of c.args.tags.now in
    let text = movetext tree outcome in
    let tags = c.push_tags.new.text.items in
    let whole : tags ≡ tags_text given outcome tree.start =
    c.in_ok-push_tags.ensures tree.start (c.as_bytes.ensures.value ∙ c.deref.ensures.0 ∙ c.start_of-fen.ensures.text) ∙ ap (λ (x : List ℕ). x ++ tags_text given outcome tree.start) (c.reserve.ensures.items ∙ c.new-text.ensures.items) in
    c.in_ok-finish.ensures tags text (c.in_ok-lines.ensures tags [] c.in_ok-new.ensures) (movetext_words tree outcome)
    ∙ ap (λ (x : List ℕ). x ++ 10 ∷ (in_lines text ++ 10 ∷ 10 ∷ [])) whole

use Rattle.std.proofs.Common.{true, false, ◌++◌, ◌∙◌, ap, codes}
use Rattle.chess_tree.specs.Forest.{NodeParts}
use Rattle.chess_items.specs.Markers.{outcome_text}
use Rattle.chess_pgn.specs.Written.{comment_text, moves_text}
use Rattle.chess_pgn.proofs.AddLemmas.{adds_on, adds_same}
use Rattle.chess_pgn.proofs.movetext.push_movetext.Goals as goal

pub returns : goal.returns
returns g c =
    let tree = c.args.tree.now.tree in
    let moves = moves_text false true tree.start tree.below in
    let end = codes " " ++ outcome_text c.args.outcome in
    let begun = c.push_comment.new.lines in
    let ended = c.push_outcome.new.lines in
    adds_on c.args.lines begun ended (comment_text tree.comment) (moves ++ end)
    (adds_same c.args.lines begun (comment_text c.notes.result.comment.now) (comment_text tree.comment) (ap comment_text (c.notes.ensures.comment ∙ ap (λ (n : NodeParts). n.comment) c.root.ensures)) c.in_ok-push_comment.ensures)
    (adds_on begun c.in_ok-lines.lines ended moves end c.in_ok-lines.ensures c.in_ok-push_outcome.ensures)

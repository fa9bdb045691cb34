use Rattle.std.proofs.Common.{rules, ◌++◌, codes}
use Rattle.chess_pgn.specs.Written.{comment_text}
use Rattle.chess_pgn.proofs.AddLemmas.{adds_on, adds_last, comment_whole}
use Rattle.chess_pgn.proofs.movetext.push_comment.Goals as goal

pub returns : goal.returns
returns g c =
    let old = c.args.lines.now in
    let comment = c.args.comment.now in
    adds_last c.push-3.result old c.push-2.new.self c.push-3.new.self (codes " {" ++ comment) (codes "}") (comment_text comment) (comment_whole comment (search rules))
    (adds_on old c.push.new.self c.push-2.new.self (codes " {") comment c.in_ok-push.ensures c.in_ok-push-2.ensures) c.push-3.ensures

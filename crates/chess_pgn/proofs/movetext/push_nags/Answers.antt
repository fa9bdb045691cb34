use Rattle.std.proofs.Common.{rules, ◌++◌, ◌+◌, codes, decimal, take, get_or}
use Rattle.chess_pgn.specs.Written.{nags_text}
use Rattle.chess_pgn.proofs.AddLemmas.{adds_on, adds_same, nags_more}
use Rattle.chess_pgn.proofs.movetext.push_nags.Goals as goal

pub loop-nag-preserved : goal.loop-nag-preserved
loop-nag-preserved g c =
    let old = c.args.lines.now in
    let mid = c.loop-nag.lines in
    let one = c.push.new.self in
    let new = c.push-in-loop-nag.new.self in
    let nags = c.args.nags.now in
    let i = c.loop-nag.nag-index in
    let n = get_or nags i 0 in
    adds_same old new (nags_text (take i nags) ++ (codes " $" ++ decimal n)) (nags_text (take (i + 1) nags)) (nags_more nags i c.loop-nag-test.true)
    (adds_on old mid new (nags_text (take i nags)) (codes " $" ++ decimal n) c.loop-nag.invariant (adds_on mid one new (codes " $") (decimal n) c.in_ok-push.ensures (adds_same one new _ (decimal n) (search rules) c.in_ok-push-2.ensures)))

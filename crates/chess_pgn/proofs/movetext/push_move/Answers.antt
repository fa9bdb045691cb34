use Rattle.chess_types.specs.board.Lines.{last}
use Rattle.chess_pgn.proofs.TaskLemmas.{node_written}
use Rattle.chess_pgn.proofs.movetext.push_move.Goals as goal

pub returns-clause-adds : goal.returns-clause-adds
returns-clause-adds g c =
    let notes = c.args.notes.now in
    node_written c.args.lines.now c.write.new.lines c.push_nags.new.lines c.push_comment.new.lines c.args.opening.now c.args.due (last c.args.speller.now) c.args.played notes.nags.now notes.comment.now
    c.in_ok-write.ensures.adds c.in_ok-push_nags.ensures c.in_ok-push_comment.ensures

use Rattle.std.proofs.Common.{[], ap, ◌∙◌}
use Rattle.chess_tree.specs.GameTree.{at_path}
use Rattle.chess_pgn.proofs.StepLemmas.{ends_read}
use Rattle.chess_pgn.proofs.ExceedLemmas.{at_root}
use Rattle.chess_pgn.proofs.reader.moves.Moves.into_tree.Goals as goal

pub returns-clause-read : goal.returns-clause-read
returns-clause-read g c = λ s h e.
    let r = c.args.self in
    ends_read r.analysis c.note.new.self.analysis c.start.new.self r.interrupted.items r.played r.comments.items r.from c.in_ok-note.ensures.analysis (c.start.ensures.path ∙ ap (at_path []) c.in_ok-tree.ensures.tree) e
    s.start s.comment s.forest s.up s.last_move s.here s.lead s.interrupted h

pub returns-clause-game : goal.returns-clause-game
returns-clause-game g c = at_root c.in_ok-tree.tree c.start.new.self c.start.ensures.path c.in_ok-tree.ensures.game

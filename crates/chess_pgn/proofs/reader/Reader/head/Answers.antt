use Rattle.chess_pgn.proofs.HeadLemmas.{moved_first}
use Rattle.chess_pgn.proofs.reader.Reader.head.Goals as goal

pub returns-in_ok-begin_moves-in_default : goal.returns-in_ok-begin_moves-in_default
returns-in_ok-begin_moves-in_default g c =
    moved_first c.args.token c.movetext.result c.args.self.now c.begin_moves.new.self c.movetext.new.self
    c.in_default.not-Mark c.in_default.not-Blank c.in_default.not-Hidden c.in_default.not-Braced c.in_default.not-Line c.in_default.not-TagOpen
    c.in_ok-begin_moves-in_default.ensures.begins c.movetext.ensures.moved

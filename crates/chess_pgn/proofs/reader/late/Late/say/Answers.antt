use Rattle.chess_pgn.proofs.SayLemmas.{no_bytes, nothing_said}
use Rattle.chess_pgn.proofs.reader.late.Late.say.Goals as goal

pub returns-then-is_empty-clause-said : goal.returns-then-is_empty-clause-said
returns-then-is_empty-clause-said g c = nothing_said c.args.self.now c.args.text.now (no_bytes c.args.text.now c.if-is_empty.ensures)

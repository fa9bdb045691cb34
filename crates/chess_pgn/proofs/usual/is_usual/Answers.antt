use Rattle.std.proofs.Common.{bytes_eq, ap, sym, ◌∙◌}
use Rattle.chess_pgn.proofs.UsualLemmas.{start_written}
use Rattle.chess_pgn.proofs.usual.is_usual.Goals as goal

pub returns : goal.returns
returns c = c.is.ensures ∙ ap (bytes_eq c.args.fen.now) (sym start_written)

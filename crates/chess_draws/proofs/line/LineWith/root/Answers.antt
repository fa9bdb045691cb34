use Rattle.std.proofs.Common.{subst}
use Rattle.chess_types.specs.board.Lines.{AreLegal}
use Rattle.chess_draws.specs.LineParts.{LineParts}
use Rattle.chess_draws.proofs.LineLemmas.{here_legal}
use Rattle.chess_draws.proofs.line.LineWith.root.Goals as goal

pub returns-clause-legal : goal.returns-clause-legal
returns-clause-legal g c = subst (λ (l : LineParts). AreLegal l.line.start l.line.moves) c.self.view_is (here_legal c.self.invariant.line)

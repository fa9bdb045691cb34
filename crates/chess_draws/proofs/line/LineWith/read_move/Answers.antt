use Rattle.std.proofs.Common.{◌≡◌, true, ap, subst, ◌∙◌}
use Rattle.std.specs.Result.{IfOk}
use Rattle.chess_types.specs.board.Position.{PositionParts}
use Rattle.chess_types.specs.board.Legal.{is_legal}
use Rattle.chess_san.specs.Naming.{san_reading}
use Rattle.chess_draws.proofs.LineLemmas.{can_ask, here_last}
use Rattle.chess_draws.proofs.line.LineWith.read_move.Goals as goal

pub read-requires : goal.read-requires
read-requires g c = can_ask c.self.invariant

pub returns-clause-value : goal.returns-clause-value
returns-clause-value g c = c.read.ensures.value ∙ ap (λ (p : PositionParts). san_reading p c.args.text.now) (here_last c.self.invariant.line c.self.view_is)

pub returns-clause-legal : goal.returns-clause-legal
returns-clause-legal g c = subst (λ (p : PositionParts). IfOk c.read.result (λ m. is_legal p m ≡ true)) (here_last c.self.invariant.line c.self.view_is) c.read.ensures.legal

use Rattle.std.proofs.Common.{◌≡◌, ◌++◌, subst}
use Rattle.chess_types.specs.board.Position.{PositionParts}
use Rattle.chess_types.specs.board.After.{after}
use Rattle.chess_san.specs.Writing.{mark_text, san}
use Rattle.chess_draws.proofs.LineLemmas.{can_name, here_last}
use Rattle.chess_draws.proofs.line.LineWith.write_unmarked.Goals as goal

pub write_unmarked-requires : goal.write_unmarked-requires
write_unmarked-requires g c = can_name c.self.invariant c.self.view_is c.args.m c.requires.legal

pub returns-clause-value : goal.returns-clause-value
returns-clause-value g c =
    subst (λ (p : PositionParts). c.write_unmarked.result.bytes ++ mark_text (after p c.args.m) ≡ san p c.args.m) (here_last c.self.invariant.line c.self.view_is) c.write_unmarked.ensures.bytes

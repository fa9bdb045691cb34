use Rattle.std.proofs.Common.{ap, ◌∙◌}
use Rattle.chess_san.specs.Writing.{mark_text}
use Rattle.chess_draws.proofs.LineLemmas.{can_ask, here_last}
use Rattle.chess_draws.proofs.line.LineWith.write_mark.Goals as goal

pub write_mark-requires : goal.write_mark-requires
write_mark-requires g c = can_ask c.self.invariant

pub returns-clause-value : goal.returns-clause-value
returns-clause-value g c = c.write_mark.ensures.value ∙ ap mark_text (here_last c.self.invariant.line c.self.view_is)

use Rattle.std.proofs.Common.{ap, ◌∙◌}
use Rattle.chess_types.specs.board.Lines.{extended}
use Rattle.chess_positions.proofs.MadeLemmas.{reached}
use Rattle.chess_positions.proofs.made.make.Goals as goal

pub returns-clause-made : goal.returns-clause-made
returns-clause-made g c =
    let m = c.args.played in
    let asked = c.unmarked_if-unmarked in
    reached c.args.line.now.line c.push_prepared.new.self.line m c.args.with_san asked.result.bytes
    (c.push_prepared.ensures.line ∙ ap (λ l. extended l m) (c.reserve.ensures.line ∙ asked.ensures.as_before.line)) asked.ensures.text

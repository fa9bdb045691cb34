use Rattle.std.proofs.Common.{◌∙◌}
use Rattle.chess_pgn.proofs.AddLemmas.{adds_none}
use Rattle.chess_pgn.proofs.TaskLemmas.{lines_as, step_made, steps_as}
use Rattle.chess_pgn.proofs.movetext.Writer.below.Goals as goal

pub returns : goal.returns
returns g c =
    let old = c.args.self.now.lines in
    let line = c.args.self.now.speller in
    let items = c.args.self.now.tasks.items in
    let m = c.args.played in
    let f = c.args.nodes in
    steps_as (c.go_on-2.ensures.line ∙ c.in_ok-go_on.ensures.line) c.in_ok-go_on-2.ensures.tasks (lines_as c.go_on-2.ensures.lines (step_made old line items m f c.args.due c.requires (adds_none old)))

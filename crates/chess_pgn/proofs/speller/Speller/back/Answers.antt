use Rattle.std.proofs.Common.{◌∙◌, ap, sym}
use Rattle.chess_pgn.proofs.TaskLemmas.{popped}
use Rattle.chess_pgn.specs.steps.Spelling.{line_of}
use Rattle.chess_pgn.specs.steps.Tasks.{shortened}
use Rattle.chess_pgn.proofs.speller.Speller.back.Goals as goal
use Rattle.chess_pgn.proofs.speller.Speller.back.Goals.{in-Made, in-Known}

pub returns : goal.returns
returns g c =
    elim c.match-self.branch [
      | in-Made w ↦ ap (λ x. line_of x.way) w.self-inside-is ∙ popped w.pop-taken.result w.in-Made.line.line w.pop-taken.new.self.line w.pop-taken.ensures.line ∙ ap shortened (ap line_of (sym w.in-Made.is) ∙ c.self.view_is)
      | in-Known w ↦ ap (λ x. line_of x.way) w.self-inside-is ∙ w.before-in-Known.ensures.line ∙ ap shortened (ap line_of (sym w.in-Known.is) ∙ c.self.view_is)
    ]

-- Why a game was over, as a caller sees it.
use Rattle.std.proofs.Common.{◌≡◌, ap, ◌∙◌}
use Rattle.std.specs.Prelude.{Option, Some, None, IfSome, option_map}
use Rattle.chess_types.specs.board.Lines.{Line}
use Rattle.chess_types.specs.board.Outcome.{status}
use Rattle.chess_report.specs.declared.report.Over.{Over}
use Rattle.chess_report.specs.MainLine.{as_far}
use Rattle.chess_report.specs.Findings.{first_over}
use Rattle.chess_bindings.specs.Codes.{outcome_code}
use Rattle.chess_bindings.specs.Reports.{why_code, why_of}

pub why_is : (line : Line) (over : Option Over) → option_map (λ (o : Over). o.ply) over ≡ first_over line → IfSome over (λ o. o.why ≡ status (as_far o.ply line))
    → outcome_code (why_of over) ≡ why_code line (first_over line)
why_is line (Some o) first why = ap outcome_code why ∙ ap (why_code line) first
why_is line None first why = ap (why_code line) first

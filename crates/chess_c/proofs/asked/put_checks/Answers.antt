use Rattle.std.proofs.Common.{ℕ, ap, ◌∙◌}
use Rattle.std.specs.FinSet.{contains}
use Rattle.chess_types.specs.board.Attack.{checks_from}
use Rattle.chess_types.specs.board.Lines.{last}
use Rattle.chess_types.specs.board.Position.{man_on}
use Rattle.chess_tree.specs.GameTree.{line_to}
use Rattle.chess_c.specs.Asked.{flag}
use Rattle.chess_c.proofs.PutLemmas.{same_map}
use Rattle.chess_c.proofs.asked.put_checks.Goals as goal

pub returns : goal.returns
returns c =
    let here = last (line_to c.args.board.now) in
    c.put_set.ensures ∙ same_map 0 (λ (square : ℕ). flag (contains c.checking.result square)) (λ (square : ℕ). flag (checks_from (man_on here) here.side square)) (λ square on_board. ap flag (c.checking.ensures square on_board))

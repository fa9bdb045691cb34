use Rattle.std.proofs.Common.{◌∷◌, [], ◌++◌, List, ℕ, map, filter, ap, ◌∙◌}
use Rattle.std.specs.FinSet.{contains}
use Rattle.chess_types.specs.board.Squares.{squares}
use Rattle.chess_types.specs.board.Board.{man_at}
use Rattle.chess_types.specs.board.Attack.{checks_from}
use Rattle.chess_types.specs.board.Position.{PositionParts, man_on}
use Rattle.chess_types.specs.board.Texts.{square_text}
use Rattle.chess_cli.specs.Answers.{list_text}
use Rattle.chess_cli.proofs.ListLemmas.{same_squares}
use Rattle.chess_cli.proofs.board_command.machine.Board.checks.Goals as goal

pub returns : goal.returns
returns g c =
    let same = same_squares (contains c.checkers.result) (checks_from (man_at c.setup.inside.placement) c.setup.inside.side) c.checkers.ensures in
    let now = c.setup.view_is ∙ c.position-setup.ensures.value ∙ c.live.ensures.position in
    let list = same ∙ ap (λ (p : PositionParts). filter (checks_from (man_on p) p.side) squares) now in
    c.put_line.ensures
    ∙ ap (λ (t : List ℕ). c.args.page.now ++ (t ++ 10 ∷ [])) (c.as_str.ensures.value ∙ c.squares_text.ensures ∙ ap (λ (ss : List ℕ). list_text (map square_text ss)) list)

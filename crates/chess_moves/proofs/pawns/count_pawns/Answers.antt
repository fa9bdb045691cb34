use Rattle.std.proofs.Common.{◌≡◌, ◌==◌, ◌<◌, ℕ, ◌+◌, ◌&&◌, not, sym, ap, ◌∙◌}
use Rattle.std.specs.FinSet.{contains}
use Rattle.chess_types.specs.board.Position.{PositionParts, man_on}
use Rattle.chess_types.specs.board.Pseudo.{is_capturable}
use Rattle.chess_types.specs.board.Squares.{file_of}
use Rattle.chess_moves.specs.steps.PawnCounts.{shifted, left_file, right_file, plain_moves}
use Rattle.chess_moves.proofs.PawnShifts.{counted_by_sets}
use Rattle.chess_moves.proofs.pawns.count_pawns.Goals as goal

pub returns : goal.returns
returns c =
    let p : PositionParts = record { placement = c.setup.inside.placement; side = c.setup.inside.side; rights = c.setup.inside.rights; target = c.setup.inside.target; clock = c.setup.inside.clock; number = c.setup.inside.number } in
    let capturable : (b : ℕ) → contains c.capturable_squares-capturable.result b ≡ is_capturable p.side (man_on p b) =
    λ b. c.capturable_squares-capturable.ensures b ∙ ap (λ (q : PositionParts). is_capturable q.side (man_on q b)) (sym c.setup.view_is) in
    let left : (b : ℕ) → b < 64 → contains c.captures-left.result b ≡ (shifted p.side 7 (λ a. contains c.args.free a && not (file_of a == left_file p.side)) b && (contains c.capturable_squares-capturable.result b && contains c.args.mask b)) =
    λ b hb. c.captures-left.ensures b hb
    ∙ ap (λ e. shifted p.side 7 (λ a. contains c.args.free a && not (file_of a == e)) b && (contains c.capturable_squares-capturable.result b && contains c.args.mask b)) c.left_file.ensures.value in
    let right : (b : ℕ) → b < 64 → contains c.captures-right.result b ≡ (shifted p.side 9 (λ a. contains c.args.free a && not (file_of a == right_file p.side)) b && (contains c.capturable_squares-capturable.result b && contains c.args.mask b)) =
    λ b hb. c.captures-right.ensures b hb
    ∙ ap (λ e. shifted p.side 9 (λ a. contains c.args.free a && not (file_of a == e)) b && (contains c.capturable_squares-capturable.result b && contains c.args.mask b)) c.right_file.ensures.value in
    (λ i. c.pawn_moves_to.ensures.value i + c.pawn_moves_to-2.ensures.value i + c.pawn_moves_to-3.ensures.value i + c.pawn_moves_to-4.ensures.value i)
    ∙ counted_by_sets p c.occupied-occupied.result c.capturable_squares-capturable.result c.args.free c.args.mask c.single_steps-one.result c.double_steps-two.result c.captures-left.result c.captures-right.result
    c.occupied-occupied.ensures capturable c.single_steps-one.ensures c.double_steps-two.ensures left right
    ∙ ap (λ (q : PositionParts). plain_moves q (contains c.args.free) (contains c.args.mask)) c.setup.view_is

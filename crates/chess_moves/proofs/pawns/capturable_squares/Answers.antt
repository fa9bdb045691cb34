use Rattle.std.proofs.Common.{◌≡◌, ℕ, subst, ap, ◌∙◌, not, ◌&&◌}
use Rattle.std.specs.FinSet.{contains, contains-difference}
use Rattle.std.proofs.lemmas.Cmp.{nat_cmp_total}
use Rattle.chess_types.specs.board.Men.{is_of, is_king_of}
use Rattle.chess_types.specs.board.Position.{PositionParts, man_on}
use Rattle.chess_types.specs.board.Pseudo.{is_capturable}
use Rattle.chess_moves.proofs.PawnTargets.{prey_is}
use Rattle.chess_moves.proofs.pawns.capturable_squares.Goals as goal

pub returns : goal.returns
returns c =
    let p : PositionParts = record { placement = c.setup.inside.placement; side = c.setup.inside.side; rights = c.setup.inside.rights; target = c.setup.inside.target; clock = c.setup.inside.clock; number = c.setup.inside.number } in
    subst (λ (q : PositionParts). (b : ℕ) → contains c.difference.result b ≡ is_capturable q.side (man_on q b)) c.setup.view_is (λ b.
    ap (λ s. contains s b) c.difference.ensures ∙ contains-difference nat_cmp_total c.of-taken.result c.king.result b
    ∙ (λ i. c.of-taken.ensures b i && not (c.king.ensures b i))
    ∙ ap (λ x. is_of x (man_on p b) && not (is_king_of x (man_on p b))) c.opponent-other.ensures ∙ prey_is p.side (man_on p b))

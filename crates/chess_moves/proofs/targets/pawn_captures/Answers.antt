use Rattle.std.proofs.Common.{◌≡◌, ℕ, ◌<◌, ◌&&◌, subst, ap, ◌∙◌}
use Rattle.std.specs.FinSet.{contains, difference}
use Rattle.chess_types.specs.declared.board.man.Kind.TheVariants.{Pawn}
use Rattle.chess_types.specs.board.Attack.{leaps}
use Rattle.chess_types.specs.board.Position.{PositionParts, man_on}
use Rattle.chess_types.specs.board.Pseudo.{is_capturable}
use Rattle.chess_moves.proofs.PawnTargets.{prey_set}
use Rattle.chess_moves.proofs.targets.pawn_captures.Goals as goal

pub returns : goal.returns
returns c =
    let p : PositionParts = record { placement = c.setup.inside.placement; side = c.setup.inside.side; rights = c.setup.inside.rights; target = c.setup.inside.target; clock = c.setup.inside.clock; number = c.setup.inside.number } in
    subst (λ (q : PositionParts). (to : ℕ) → to < 64 → contains c.difference.result to ≡ (leaps q.side Pawn c.args.from to && is_capturable q.side (man_on q to)))
    c.setup.view_is (λ to ht.
    ap (λ s. contains s to) (c.difference.ensures ∙ ap (λ s. difference s c.king.result) c.intersection-taken.ensures)
    ∙ prey_set p (leaps c.setup.inside.side Pawn c.args.from) c.opponent-other.result c.leap_squares-aside.result c.of.result c.king.result to
    c.opponent-other.ensures ht (c.leap_squares-aside.ensures to) c.of.ensures c.king.ensures)

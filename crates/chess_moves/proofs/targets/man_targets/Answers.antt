use Rattle.std.proofs.Common.{◌≡◌, ℕ, ◌<◌, None, subst, ap, ◌∙◌}
use Rattle.std.specs.FinSet.{contains, difference}
use Rattle.chess_types.specs.board.Position.{PositionParts}
use Rattle.chess_types.specs.board.Pseudo.{moves_as_it_attacks}
use Rattle.chess_moves.specs.steps.Targets.{attacks_from, move_to}
use Rattle.chess_moves.proofs.PawnTargets.{enter_set}
use Rattle.chess_moves.proofs.targets.man_targets.Goals as goal

pub returns : goal.returns
returns c =
    let p : PositionParts = record { placement = c.setup.inside.placement; side = c.setup.inside.side; rights = c.setup.inside.rights; target = c.setup.inside.target; clock = c.setup.inside.clock; number = c.setup.inside.number } in
    subst (λ (q : PositionParts). (to : ℕ) → to < 64 → contains c.difference.result to ≡ moves_as_it_attacks q c.args.kind (move_to c.args.from to None))
    c.setup.view_is (λ to ht.
    ap (λ s. contains s to) (c.difference.ensures ∙ ap (λ s. difference s c.king.result) c.difference-free.ensures)
    ∙ enter_set p (attacks_from p c.args.kind c.args.from) c.opponent-other.result c.attacks-all.result c.of.result c.king.result to
    c.opponent-other.ensures ht (c.attacks-all.ensures to ht) c.of.ensures c.king.ensures)

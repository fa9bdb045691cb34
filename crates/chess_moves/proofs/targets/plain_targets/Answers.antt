use Rattle.std.proofs.Common.{◌||◌, sym, ap, ◌∙◌}
use Rattle.std.specs.FinSet.{contains, contains-union}
use Rattle.std.proofs.lemmas.Cmp.{nat_cmp_total}
use Rattle.chess_moves.specs.steps.Targets.{is_plain_target}
use Rattle.chess_moves.proofs.targets.plain_targets.Goals as goal

pub returns-then-is_pawn : goal.returns-then-is_pawn
unfolding is_plain_target
returns-then-is_pawn c = λ to ht.
    rw (sym c.is_pawn.ensures ∙ c.if-is_pawn.true)
    (ap (λ s. contains s to) c.union.ensures
    ∙ contains-union nat_cmp_total c.pawn_steps-steps.result c.pawn_captures-captures.result to
    ∙ (λ i. c.pawn_steps-steps.ensures to ht i || c.pawn_captures-captures.ensures to ht i))

pub returns-else-is_pawn : goal.returns-else-is_pawn
unfolding is_plain_target
returns-else-is_pawn c = λ to ht. rw (sym c.is_pawn.ensures ∙ c.if-is_pawn.false) (c.man_targets.ensures to ht)

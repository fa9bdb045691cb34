use Rattle.std.proofs.Common.{◌≡◌, ◌∙◌, ◌≤◌, ℕ, None, ap, sym}
use Rattle.chess_types.specs.board.Position.{PositionParts, man_on}
use Rattle.chess_fen.proofs.BackLemmas.{IsOnBoard}
use Rattle.chess_draws.proofs.IdentityLemmas.{one_position, one_text}
use Rattle.chess_draws.proofs.laws.identity_laws.Goals as goal

-- what is known of a position is known of the one that it is
on_board : (p q : PositionParts) → q ≡ p → ((s : ℕ) → 64 ≤ s → man_on q s ≡ None) → IsOnBoard p.placement
on_board p q same none s high = ap (λ (r : PositionParts). man_on r s) (sym same) ∙ none s high

pub returns-clause-same : goal.returns-clause-same
returns-clause-same g c =
    one_text _ _ (on_board _ _ (c.position.ensures.value ∙ c.live-some.ensures.position) c.write_fields-some.ensures.on_board)
    (on_board _ _ (c.position-2.ensures.value ∙ c.live-other.ensures.position) c.write_fields-other.ensures.on_board)

pub returns-clause-apart : goal.returns-clause-apart
returns-clause-apart g c =
    one_position _ _ c.live-some.ensures.well_formed c.live-other.ensures.well_formed
    (on_board _ _ (c.position.ensures.value ∙ c.live-some.ensures.position) c.write_fields-some.ensures.on_board)
    (on_board _ _ (c.position-2.ensures.value ∙ c.live-other.ensures.position) c.write_fields-other.ensures.on_board)

-- A move that names a promotion wrongly isn't pseudo-legal.
use Rattle.std.proofs.Common.{◌≡◌, true, false, not, is_some, ap, ◌∙◌}
use Rattle.std.proofs.lemmas.Bool.{and_right}
use Rattle.chess_types.specs.declared.board.man.Kind.{Kind}
use Rattle.chess_types.specs.declared.board.man.Kind.TheVariants.{Pawn, King}
use Rattle.chess_types.specs.board.MoveParts.{MoveParts}
use Rattle.chess_types.specs.board.Position.{PositionParts}
use Rattle.chess_types.specs.board.Pseudo.{moves_as, pawn_promotion_fits}

pub pawn_named_wrongly :
    (p : PositionParts) (kind : Kind) (m : MoveParts) → kind ≡ Pawn → pawn_promotion_fits p.side m ≡ false → moves_as p kind m ≡ false
unfolding moves_as
pawn_named_wrongly p k m is wrong = ap (λ x. moves_as p x m) is ∙ and_right _ _ wrong

pub king_promoted : (p : PositionParts) (kind : Kind) (m : MoveParts) → kind ≡ King → is_some m.promo ≡ true → moves_as p kind m ≡ false
unfolding moves_as
king_promoted p k m is named = ap (λ x. moves_as p x m) is ∙ and_right _ _ (ap not named)

use Rattle.std.proofs.Common.{sym, ◌∙◌}
use Rattle.chess_moves.proofs.KindCounts.{is_a_piece}
use Rattle.chess_moves.proofs.targets.targets.Goals as goal

pub piece_targets-requires-clause-piece : goal.piece_targets-requires-clause-piece
piece_targets-requires-clause-piece g c = is_a_piece c.args.kind (sym c.is_pawn.ensures ∙ c.if-is_pawn.false) (sym c.is_king.ensures ∙ c.if-is_king.false)

use Rattle.std.proofs.Common.{refl}
use Rattle.chess_types.specs.declared.board.man.Colour.TheVariants.{White, Black}
use Rattle.chess_types.specs.declared.board.man.Kind.TheVariants.{Pawn, Knight}
use Rattle.chess_types.specs.board.Men.{is_of}
use Rattle.chess_types.specs.steps.KeptSets.{holds_kind, holds_king, holds_straight, holds_diagonal}
use Rattle.chess_types.proofs.StartSets as sets
use Rattle.chess_types.proofs.board.kept.Kept.start.Goals as goal

pub returns : goal.returns
returns c = record {
  white = rw c.from_bits.ensures (sets.gathers (is_of White) 65535 refl sets.white);
  black = rw c.from_bits-2.ensures (sets.gathers (is_of Black) 18446462598732840960 refl sets.black);
  pawns = rw c.from_bits-3.ensures (sets.gathers (holds_kind Pawn) 71776119061282560 refl sets.pawns);
  knights = rw c.from_bits-4.ensures (sets.gathers (holds_kind Knight) 4755801206503243842 refl sets.knights);
  kings = rw c.from_bits-5.ensures (sets.gathers holds_king 1152921504606846992 refl sets.kings);
  straight = rw c.from_bits-6.ensures (sets.gathers holds_straight 9871890383196127369 refl sets.straight);
  diagonal = rw c.from_bits-7.ensures (sets.gathers holds_diagonal 3170534137668829228 refl sets.diagonal);
}

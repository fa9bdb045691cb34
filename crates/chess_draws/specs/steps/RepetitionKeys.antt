-- What is kept of a position to compare it with others.
--   holds_straight_or_king   a man stands there that is kept among those that go along ranks and files
--   holds_short     one that is kept with the pawns; the kings are in both
--   IsMenOf         the sets of squares are those of what stands on a board
--   IsKeyOf       what is kept is that of a position
--   same_men        the five sets of two boards are the same
--   same_moves      the castling rights and the counting target are those before a ply
use Rattle.std.specs.Prelude.{◌≡◌, Bool, false, ◌&&◌, ◌||◌, Option, Some, None}
use Rattle.chess_types.specs.declared.board.man.Man.{Man}
use Rattle.chess_types.specs.declared.board.man.Colour.TheVariants.{White, Black}
use Rattle.chess_types.specs.board.Board.{Men}
use Rattle.chess_types.specs.board.Men.{is_of, is_pawn, is_king}
use Rattle.chess_types.specs.board.Position.{PositionParts, man_on}
use Rattle.chess_types.specs.board.Sets.{same_each}
use Rattle.chess_types.specs.board.Repetition.{same_rights, same_target, counting_target}
use Rattle.chess_types.specs.steps.KeptSets.{Gathers, is_straight, holds_diagonal}
use Rattle.chess_draws.specs.declared.men.MenSets.{MenSets}
use Rattle.chess_draws.specs.declared.repetition_key.RepetitionKey.{RepetitionKey}
use Rattle.chess_draws.specs.steps.KeptPlies.{PlyParts}

-- a rook, a queen or a king stands there
abbrev pub holds_straight_or_king : Option Man → Bool
holds_straight_or_king None = false
holds_straight_or_king (Some man) = is_straight man.kind || is_king man.kind

-- a pawn or a king stands there
abbrev pub holds_short : Option Man → Bool
holds_short None = false
holds_short (Some man) = is_pawn man.kind || is_king man.kind

-- the five sets are those of the board
pub record IsMenOf (men : MenSets) (man_on : Men) : Type 0 where
  pub white : Gathers men.white (is_of White) man_on
  pub black : Gathers men.black (is_of Black) man_on
  pub straight : Gathers men.straight holds_straight_or_king man_on
  pub diagonal : Gathers men.diagonal holds_diagonal man_on
  pub short : Gathers men.short holds_short man_on

-- that of a position
pub record IsKeyOf (key : RepetitionKey) (p : PositionParts) : Type 0 where
  pub men : IsMenOf key.men (man_on p)
  pub side : key.side ≡ p.side
  pub rights : key.rights ≡ p.rights
  pub target : key.target ≡ counting_target p

-- the same men are on the same squares, by the sets that are kept
unfoldable pub same_men : MenSets → MenSets → Bool
same_men m n =
    same_each m.white n.white && same_each m.black n.black && same_each m.straight n.straight && same_each m.diagonal n.diagonal
    && same_each m.short n.short

-- the castling rights are those before a ply, and so is the target that counts (9.2.3)
unfoldable pub same_moves : RepetitionKey → PlyParts → Bool
same_moves s ply = same_rights s.rights ply.past.rights && same_target s.target ply.target

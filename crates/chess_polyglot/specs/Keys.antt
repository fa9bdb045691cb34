-- A position's key in Polyglot's opening books: the exclusive or of published numbers (http://hgm.nubati.net/book_format.html).
--   man_place       which of the numbers is that of a man on a square
--   xor_all         the exclusive or of a list of numbers
--   men_key, rights_key, target_key, side_key   what the men, the castling rights, the en passant target and the side to move give
--   is_beside       a pawn of a side stands next to the one that has just advanced two squares
--   polyglot_key    all of it
use Rattle.std.specs.Prelude.{ℕ, ◌+◌, ◌-◌, ◌*◌, Bool, true, false, ◌&&◌, if◌then◌else◌, List, [], ◌∷◌, map, Option, Some, None, bit_xor}
use Rattle.std.specs.List.{list_any}
use Rattle.chess_types.specs.declared.board.man.Colour.{Colour}
use Rattle.chess_types.specs.declared.board.man.Colour.TheVariants.{White, Black}
use Rattle.chess_types.specs.declared.board.man.Kind.TheVariants.{Pawn}
use Rattle.chess_types.specs.declared.board.man.Man.{Man}
use Rattle.chess_types.specs.declared.board.position.Rights.{Rights}
use Rattle.chess_types.specs.board.Squares.{file_of, squares}
use Rattle.chess_types.specs.board.Board.{Men}
use Rattle.chess_types.specs.board.Men.{colour_number, kind_number, is_man}
use Rattle.chess_types.specs.board.Attack.{leaps}
use Rattle.chess_types.specs.board.Position.{PositionParts, man_on}
use Rattle.chess_polyglot.specs.Numbers.{number_at}

-- Black's pawn on a1 to h8, then White's pawn, Black's knight and so on to White's king
abbrev pub man_place : Man → ℕ → ℕ
man_place man square = 64 * (2 * kind_number man.kind + (1 - colour_number man.colour)) + square

-- the exclusive or of the numbers
abbrev pub xor_all : List ℕ → ℕ
xor_all [] = 0
xor_all (n ∷ ns) = bit_xor n (xor_all ns)

-- nothing, where no man stands
abbrev pub number_there : Option Man → ℕ → ℕ
number_there None square = 0
number_there (Some man) square = number_at (man_place man square)

-- the number of each man on his square
unfoldable pub men_key : Men → ℕ
men_key man_on = xor_all (map (λ s. number_there (man_on s) s) squares)

-- the number of a right that is held
abbrev pub right_key : Bool → ℕ → ℕ
right_key true place = number_at place
right_key false place = 0

-- White's rights to the king's and the queen's side, then Black's
abbrev pub rights_key : Rights → ℕ
rights_key rights =
    xor_all (right_key rights.white_king 768 ∷ right_key rights.white_queen 769 ∷ right_key rights.black_king 770 ∷ right_key rights.black_queen 771 ∷ [])

-- a pawn of the side attacks the target, so it stands next to the pawn that has just passed over it (whether it may capture isn't asked)
unfoldable pub is_beside : Men → Colour → ℕ → Bool
is_beside man_on side target = list_any (λ s. leaps side Pawn s target && is_man (man_on s) side Pawn) squares

-- the number of the target's file, where such a pawn is there
abbrev pub target_key : Men → Colour → Option ℕ → ℕ
target_key man_on side None = 0
target_key man_on side (Some target) = if is_beside man_on side target then number_at (772 + file_of target) else 0

-- White to move
abbrev pub side_key : Colour → ℕ
side_key White = number_at 780
side_key Black = 0

-- the key of the position
unfoldable pub polyglot_key : PositionParts → ℕ
polyglot_key p = xor_all (men_key (man_on p) ∷ rights_key p.rights ∷ target_key (man_on p) p.side p.target ∷ side_key p.side ∷ [])

-- Which squares the men attack, and how many men attack a square (FIDE Laws, articles 3.1 to 3.9).
--   leaps         a knight (3.6), a king (3.8.1) or a pawn (3.7.3) attacks, whatever stands between
--   slides_to     a bishop (3.2), a rook (3.3) or a queen (3.4) would, on an empty board
--   is_clear      no man stands strictly between two squares (3.5)
--   attacks_as    a man on one square attacks another; what stands on that other doesn't matter (3.1.2)
--   count         how many men of a colour attack a square: the attack count
--   is_attacked   one or more do
--   in_check      the king of a colour is attacked by the other side (3.9.1)
--   checks_from   by the man on this square
use Rattle.std.specs.Prelude.{ℕ, ◌+◌, ◌-◌, ◌==◌, nat_le, Bool, true, false, not, ◌&&◌, ◌||◌, Option, Some, None, is_none, count_by}
use Rattle.std.specs.List.{list_all, list_any}
use Rattle.chess_types.specs.declared.board.axis.Axis.{Axis}
use Rattle.chess_types.specs.declared.board.axis.Axis.TheVariants.{Rank, File, Rising, Falling}
use Rattle.chess_types.specs.declared.board.man.Colour.{Colour}
use Rattle.chess_types.specs.declared.board.man.Colour.TheVariants.{White, Black}
use Rattle.chess_types.specs.declared.board.man.Kind.{Kind}
use Rattle.chess_types.specs.declared.board.man.Kind.TheVariants.{Pawn, Knight, Bishop, Rook, Queen, King}
use Rattle.chess_types.specs.declared.board.man.Man.{Man}
use Rattle.chess_types.specs.board.Board.{Men}
use Rattle.chess_types.specs.board.Squares.{file_of, rank_of, on_axis, is_between, squares}
use Rattle.chess_types.specs.board.Men.{same_colour, opponent, is_king_of}

-- how far apart two numbers are
abbrev pub distance : ℕ → ℕ → ℕ
distance m n = (m - n) + (n - m)

-- The knight goes to the nearest squares not on its rank, file or diagonal; the king to the squares next to it;
-- the pawn attacks the one or two squares diagonally forward.
unfoldable pub leaps : Colour → Kind → ℕ → ℕ → Bool
leaps c Knight a b =
    (distance (file_of a) (file_of b) == 1 && distance (rank_of a) (rank_of b) == 2)
    || (distance (file_of a) (file_of b) == 2 && distance (rank_of a) (rank_of b) == 1)
leaps c King a b = not (a == b) && nat_le (distance (file_of a) (file_of b)) 1 && nat_le (distance (rank_of a) (rank_of b)) 1
leaps White Pawn a b = distance (file_of a) (file_of b) == 1 && rank_of b == rank_of a + 1
leaps Black Pawn a b = distance (file_of a) (file_of b) == 1 && rank_of a == rank_of b + 1
leaps c Bishop a b = false
leaps c Rook a b = false
leaps c Queen a b = false

-- the axes that a kind moves along
unfoldable pub slides : Kind → Axis → Bool
slides Rook Rank = true
slides Rook File = true
slides Bishop Rising = true
slides Bishop Falling = true
slides Queen axis = true
slides _ _ = false

-- the man of that kind moves along the axis, and both squares are on one line of it
abbrev pub slides_on : Kind → Axis → ℕ → ℕ → Bool
slides_on kind axis a b = slides kind axis && on_axis axis a b

-- the man of that kind moves along a line through both squares
unfoldable pub slides_to : Kind → ℕ → ℕ → Bool
slides_to kind a b =
    not (a == b) && (slides_on kind Rank a b || slides_on kind File a b || slides_on kind Rising a b || slides_on kind Falling a b)

-- no man stands strictly between
unfoldable pub is_clear : Men → ℕ → ℕ → Bool
is_clear man_on a b = list_all (λ t. not (is_between a b t) || is_none (man_on t)) squares

-- the man, standing on a, attacks b
unfoldable pub attacks_as : Man → Men → ℕ → ℕ → Bool
attacks_as man man_on a b = leaps man.colour man.kind a b || (slides_to man.kind a b && is_clear man_on a b)

-- a holds a man of the colour, which attacks b
abbrev pub attacks_for : Option Man → Colour → Men → ℕ → ℕ → Bool
attacks_for None colour man_on a b = false
attacks_for (Some man) colour man_on a b = same_colour man.colour colour && attacks_as man man_on a b

-- how many squares hold a man of the colour that attacks s
unfoldable pub count : Men → Colour → ℕ → ℕ
count man_on colour s = count_by (λ a. attacks_for (man_on a) colour man_on a s) squares

-- one or more men of the colour attack s
abbrev pub is_attacked : Men → Colour → ℕ → Bool
is_attacked man_on colour s = nat_le 1 (count man_on colour s)

-- the king of the colour is attacked by the other side
unfoldable pub in_check : Men → Colour → Bool
in_check man_on colour = list_any (λ s. is_king_of colour (man_on s) && is_attacked man_on (opponent colour) s) squares

-- the man on a is the other side's, and attacks the king of the colour (3.9.1)
unfoldable pub checks_from : Men → Colour → ℕ → Bool
checks_from man_on colour a = list_any (λ s. is_king_of colour (man_on s) && attacks_for (man_on a) (opponent colour) man_on a s) squares

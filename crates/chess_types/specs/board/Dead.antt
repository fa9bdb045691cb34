-- Dead positions: those on a stated list, in which no side can mate by any moves (FIDE Laws, article 5.2.2). Others are dead, too;
-- the list stops here.
--   others            the squares of the men other than kings
--   is_lone_minor     king against king, or king and one knight or bishop against king
--   is_one_coloured   kings and bishops only, all bishops of both sides on squares of one colour
--   is_dead           one of these
use Rattle.std.specs.Prelude.{ℕ, ◌+◌, ◌%◌, ◌==◌, nat_le, Bool, false, not, ◌&&◌, ◌||◌, List, filter, length, Option, Some, None}
use Rattle.std.specs.List.{list_all}
use Rattle.chess_types.specs.declared.board.man.Man.{Man}
use Rattle.chess_types.specs.declared.board.man.Kind.TheVariants.{Knight, Bishop}
use Rattle.chess_types.specs.board.Men.{same_kind, is_king}
use Rattle.chess_types.specs.board.Board.{Men}
use Rattle.chess_types.specs.board.Squares.{file_of, rank_of, squares}
use Rattle.chess_types.specs.board.Position.{PositionParts, man_on}

-- a man other than a king stands there
abbrev pub is_other : Option Man → Bool
is_other None = false
is_other (Some man) = not (is_king man.kind)

-- a bishop stands there
abbrev pub holds_bishop : Option Man → Bool
holds_bishop None = false
holds_bishop (Some man) = same_kind man.kind Bishop

-- a bishop or a knight stands there
abbrev pub holds_minor : Option Man → Bool
holds_minor None = false
holds_minor (Some man) = same_kind man.kind Bishop || same_kind man.kind Knight

-- the squares of one colour, h1 among them (2.1)
abbrev pub is_light : ℕ → Bool
is_light s = (file_of s + rank_of s) % 2 == 1

-- the squares of the men other than kings
abbrev pub others : Men → List ℕ
others men = filter (λ s. is_other (men s)) squares

-- beside the kings at most one man, a knight or a bishop
abbrev pub is_lone_minor : Men → Bool
is_lone_minor men = list_all (λ s. holds_minor (men s)) (others men) && nat_le (length (others men)) 1

-- beside the kings only bishops, on squares of one colour
abbrev pub is_one_coloured : Men → Bool
is_one_coloured men =
    list_all (λ s. holds_bishop (men s)) (others men) && (list_all is_light (others men) || list_all (λ s. not (is_light s)) (others men))

-- on the list
unfoldable pub is_dead : PositionParts → Bool
is_dead p = is_lone_minor (man_on p) || is_one_coloured (man_on p)

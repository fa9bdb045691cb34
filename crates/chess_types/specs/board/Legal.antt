-- Legal moves, and the list of all of them (FIDE Laws, articles 1.4.1, 3.9.2 and 3.10.1).
--   is_legal        a pseudo-legal move that leaves the mover's king unattacked
--   promotions      what a move may name, in order
--   moves_between   the moves with one origin and one target; moves_from, those with one origin; all_moves, all of them
--   legal_moves     the legal ones, in order
use Rattle.std.specs.Prelude.{ℕ, Bool, not, ◌&&◌, List, [], ◌∷◌, map, filter, Option, Some, None}
use Rattle.std.specs.List.{flat_map}
use Rattle.chess_types.specs.declared.board.man.Kind.{Kind}
use Rattle.chess_types.specs.declared.board.man.Kind.TheVariants.{Queen, Rook, Bishop, Knight}
use Rattle.chess_types.specs.board.Squares.{squares}
use Rattle.chess_types.specs.board.Attack.{in_check}
use Rattle.chess_types.specs.board.MoveParts.{MoveParts}
use Rattle.chess_types.specs.board.Position.{PositionParts, man_on}
use Rattle.chess_types.specs.board.Pseudo.{is_pseudo}
use Rattle.chess_types.specs.board.After.{after}

-- pseudo-legal, and after it the mover's king isn't in check (3.9.2, 3.10.1)
unfoldable pub is_legal : PositionParts → MoveParts → Bool
is_legal p m = is_pseudo p m && not (in_check (man_on (after p m)) p.side)

-- nothing, or what a pawn becomes: a queen, rook, bishop or knight (3.7.3.3)
unfoldable pub promotions : List (Option Kind)
promotions = None ∷ Some Queen ∷ Some Rook ∷ Some Bishop ∷ Some Knight ∷ []

-- the moves from one square to another, by what they promote to
abbrev pub moves_between : ℕ → ℕ → List MoveParts
moves_between from to = map (λ promo. record { from = from; to = to; promo = promo }) promotions

-- the moves from a square, by the square that they end on
unfoldable pub moves_from : ℕ → List MoveParts
moves_from from = flat_map (moves_between from) squares

-- by origin, then by target, then by promotion
unfoldable pub all_moves : List MoveParts
all_moves = flat_map moves_from squares

-- the legal moves, in that order
unfoldable pub legal_moves : PositionParts → List MoveParts
legal_moves p = filter (is_legal p) all_moves

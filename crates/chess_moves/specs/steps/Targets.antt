-- The candidates of a man of the side to move: where it might go, where it goes, and what its move may name there.
--   move_to      the move between two squares that names this promotion
--   is_forward   a square's number is so much forward of another's: 8 for one square ahead, 16 for two
--   is_candidate    a square that a man of the kind attacks; for a pawn also the two ahead, for a king the two of castling
--   is_pseudo_target       it goes there, whatever the move names (FIDE Laws, articles 3.1 to 3.8); is_plain_target, in no special way; passes, en passant
--   promotes     a pawn comes to its last rank (3.7.3.3)
--   promotion_fits   what a move names fits its man and where it goes
--   promotion_kinds     what a pawn becomes, in order; promotions_between, its moves to the last rank; moves_named, those of a man there
--   is_legal_target        a man's move to a square is legal
use Rattle.std.specs.Prelude.{ℕ, ◌+◌, ◌==◌, Bool, ◌&&◌, ◌||◌, if◌then◌else◌, List, [], ◌∷◌, map, Option, Some, None, is_none, is_some}
use Rattle.chess_types.specs.declared.board.man.Colour.{Colour}
use Rattle.chess_types.specs.declared.board.man.Colour.TheVariants.{White, Black}
use Rattle.chess_types.specs.declared.board.man.Kind.{Kind}
use Rattle.chess_types.specs.declared.board.man.Kind.TheVariants.{Pawn, Knight, Bishop, Rook, Queen, King}
use Rattle.chess_types.specs.declared.board.position.Wing.TheVariants.{KingSide, QueenSide}
use Rattle.chess_types.specs.board.Squares.{rank_of}
use Rattle.chess_types.specs.board.Men.{is_pawn}
use Rattle.chess_types.specs.board.Attack.{attacks_as, leaps}
use Rattle.chess_types.specs.board.MoveParts.{MoveParts}
use Rattle.chess_types.specs.board.Texts.{names_promotion}
use Rattle.chess_types.specs.board.Position.{PositionParts, man_on}
use Rattle.chess_types.specs.board.Pseudo.{last_rank, reached, is_capturable, is_target, steps_one, steps_two, pawn_takes, moves_as_it_attacks, castles}
use Rattle.chess_types.specs.board.Legal.{is_legal}

-- a move from its parts
abbrev pub move_to : ℕ → ℕ → Option Kind → MoveParts
move_to from to promo = record { from = from; to = to; promo = promo }

-- so many squares forward, seen by the colour
abbrev pub is_forward : Colour → ℕ → ℕ → ℕ → Bool
is_forward White by a b = b == a + by
is_forward Black by a b = a == b + by

-- a man of the side and the kind attacks b from a
abbrev pub attacks_from : PositionParts → Kind → ℕ → ℕ → Bool
attacks_from p kind a b = attacks_as (record { colour = p.side; kind = kind }) (man_on p) a b

-- a square that a man of the kind might go to
unfoldable pub is_candidate : PositionParts → Kind → ℕ → ℕ → Bool
is_candidate p Pawn a b = attacks_from p Pawn a b || is_forward p.side 8 a b || is_forward p.side 16 a b
is_candidate p Knight a b = attacks_from p Knight a b
is_candidate p Bishop a b = attacks_from p Bishop a b
is_candidate p Rook a b = attacks_from p Rook a b
is_candidate p Queen a b = attacks_from p Queen a b
is_candidate p King a b = attacks_from p King a b || reached p.side KingSide == b || reached p.side QueenSide == b

-- a square that a man of the kind may go to, but for his king
unfoldable pub is_pseudo_target : PositionParts → Kind → ℕ → ℕ → Bool
is_pseudo_target p Pawn a b = steps_one p (move_to a b None) || steps_two p (move_to a b None) || pawn_takes p (move_to a b None)
is_pseudo_target p Knight a b = moves_as_it_attacks p Knight (move_to a b None)
is_pseudo_target p Bishop a b = moves_as_it_attacks p Bishop (move_to a b None)
is_pseudo_target p Rook a b = moves_as_it_attacks p Rook (move_to a b None)
is_pseudo_target p Queen a b = moves_as_it_attacks p Queen (move_to a b None)
is_pseudo_target p King a b = moves_as_it_attacks p King (move_to a b None) || castles p KingSide (move_to a b None) || castles p QueenSide (move_to a b None)

-- the same, en passant and castling aside
unfoldable pub is_plain_target : PositionParts → Kind → ℕ → ℕ → Bool
is_plain_target p kind a b =
    if is_pawn kind
    then (steps_one p (move_to a b None) || steps_two p (move_to a b None)) || (leaps p.side Pawn a b && is_capturable p.side (man_on p b))
    else moves_as_it_attacks p kind (move_to a b None)

-- a pawn goes to the en passant target
abbrev pub is_passing_target : PositionParts → ℕ → ℕ → Bool
is_passing_target p a b = leaps p.side Pawn a b && is_target p.target b

-- a pawn comes to its last rank
abbrev pub promotes : Colour → Kind → ℕ → Bool
promotes side kind to = is_pawn kind && rank_of to == last_rank side

-- a pawn becomes something exactly where it comes to its last rank
abbrev pub promotion_fits : Colour → Kind → MoveParts → Bool
promotion_fits side kind m = if promotes side kind m.to then is_some m.promo && names_promotion m.promo else is_none m.promo

-- what a pawn may become, in order
unfoldable pub promotion_kinds : List Kind
promotion_kinds = Queen ∷ Rook ∷ Bishop ∷ Knight ∷ []

-- the promotions from one square to another
abbrev pub promotions_between : ℕ → ℕ → List MoveParts
promotions_between from to = map (λ kind. move_to from to (Some kind)) promotion_kinds

-- what the moves of a man of the kind there name: nothing, or the promotions in order
abbrev pub moves_named : Colour → Kind → ℕ → ℕ → List MoveParts
moves_named side kind from to = if promotes side kind to then promotions_between from to else (move_to from to None ∷ [])

-- the man's move there is legal: one that names nothing, or a queen where it promotes
unfoldable pub is_legal_target : PositionParts → Kind → ℕ → ℕ → Bool
is_legal_target p kind from to = is_legal p (move_to from to (if promotes p.side kind to then Some Queen else None))

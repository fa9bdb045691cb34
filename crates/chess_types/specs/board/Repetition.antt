-- The same position, and how often a line has come to its last one (FIDE Laws, articles 9.2 and 9.6.1).
--   same_man, same_rights, same_target   what stands on a square, the castling rights, the en passant targets agree
--   target_counts     some legal move captures on the target
--   counting_target   the target, where it counts
--   is_same           two positions are the same
--   repetitions       how many positions of a line are the same as its last, itself included
-- No key of a position occurs here.
use Rattle.std.specs.Prelude.{ℕ, ◌==◌, Bool, true, false, not, ◌&&◌, if◌then◌else◌, Option, Some, None, count_by}
use Rattle.std.specs.List.{list_all, list_any}
use Rattle.std.specs.Option.{option_eq}
use Rattle.chess_types.specs.declared.board.man.Man.{Man}
use Rattle.chess_types.specs.declared.board.position.Rights.{Rights}
use Rattle.chess_types.specs.board.Squares.{squares}
use Rattle.chess_types.specs.board.Men.{same_colour, same_kind}
use Rattle.chess_types.specs.board.MoveParts.{MoveParts}
use Rattle.chess_types.specs.board.Position.{PositionParts, man_on}
use Rattle.chess_types.specs.board.After.{is_en_passant}
use Rattle.chess_types.specs.board.Legal.{legal_moves}
use Rattle.chess_types.specs.board.Lines.{Line, last, positions}

-- both or neither
abbrev pub same_bool : Bool → Bool → Bool
same_bool true b = b
same_bool false b = not b

-- nothing on both squares, or men of one colour and kind
abbrev pub same_man : Option Man → Option Man → Bool
same_man = option_eq (λ m n. same_colour m.colour n.colour && same_kind m.kind n.kind)

-- all four rights agree
abbrev pub same_rights : Rights → Rights → Bool
same_rights r s =
    same_bool r.white_king s.white_king && same_bool r.white_queen s.white_queen && same_bool r.black_king s.black_king
    && same_bool r.black_queen s.black_queen

-- none in both, or one square
abbrev pub same_target : Option ℕ → Option ℕ → Bool
same_target = option_eq (λ s t. s == t)

-- the man captures on the target
abbrev pub takes_target : PositionParts → Option Man → MoveParts → Bool
takes_target p None m = false
takes_target p (Some man) m = is_en_passant p.target man m

-- some legal move captures on the target (9.2.3.1)
unfoldable pub target_counts : PositionParts → Bool
target_counts p = list_any (λ m. takes_target p (man_on p m.from) m) (legal_moves p)

-- the target where a pawn can be captured there, else none
unfoldable pub counting_target : PositionParts → Option ℕ
counting_target p = if target_counts p then p.target else None

-- the same side has the move, the same men stand on the same squares, and the same moves are possible (9.2.3)
unfoldable pub is_same : PositionParts → PositionParts → Bool
is_same p q =
    same_colour p.side q.side && list_all (λ s. same_man (man_on p s) (man_on q s)) squares && same_rights p.rights q.rights
    && same_target (counting_target p) (counting_target q)

-- how often the line has come to its last position, the last time included (9.2.2, 9.6.1)
unfoldable pub repetitions : Line → ℕ
repetitions line = count_by (is_same (last line)) (positions line)

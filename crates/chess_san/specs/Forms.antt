-- What a text in standard algebraic notation says of a move (PGN 8.2.3).
--   form_in     the form of a text: castling, a man by its letter, or a move without a letter
--   course_in   what comes after the letter: where the man comes from, its target, and what a pawn becomes
-- Any number of + and # at the end is dropped; an x may stand before the target.
use Rattle.std.specs.Prelude.{ℕ, ◌+◌, ◌*◌, ◌-◌, ◌==◌, nat_le, ◌&&◌, ◌||◌, if◌then◌else◌, List, [], ◌∷◌, Option, Some, None, codes, bytes_eq}
use Rattle.std.specs.Str.{byte}
use Rattle.chess_types.specs.declared.board.man.Kind.{Kind}
use Rattle.chess_types.specs.declared.board.man.Kind.TheVariants.{Knight, Bishop, Rook, Queen}
use Rattle.chess_types.specs.declared.board.position.Wing.{Wing}
use Rattle.chess_types.specs.declared.board.position.Wing.TheVariants.{KingSide, QueenSide}
use Rattle.chess_types.specs.board.Men.{is_pawn}
use Rattle.chess_types.specs.board.Texts.{kind_of_letter}
use Rattle.byte_streams.specs.Words.{without_last_gaps}
use Rattle.chess_san.specs.declared.form.Origin.{Origin}
use Rattle.chess_san.specs.declared.form.Course.{Course}
use Rattle.chess_san.specs.declared.form.Form.{Form}
use Rattle.chess_san.specs.declared.form.Form.TheVariants.{Castles, Piece, Plain}

-- the number of a byte among the eight that begin with the first
unfoldable pub among_eight : ℕ → ℕ → Option ℕ
among_eight first b = if nat_le first b && nat_le b (first + 7) then Some (b - first) else None

-- a to h
abbrev pub file_in : ℕ → Option ℕ
file_in = among_eight (byte "a")

-- 1 to 8
abbrev pub rank_in : ℕ → Option ℕ
rank_in = among_eight (byte "1")

-- the square of a file and a rank, where both are given
abbrev pub square_at : Option ℕ → Option ℕ → Option ℕ
square_at None rank = None
square_at (Some file) None = None
square_at (Some file) (Some rank) = Some (8 * rank + file)

-- a pawn has no letter
abbrev pub not_pawn : Option Kind → Option Kind
not_pawn None = None
not_pawn (Some kind) = if is_pawn kind then None else Some kind

-- N, B, R, Q, K
unfoldable pub piece_in : ℕ → Option Kind
piece_in b = not_pawn (kind_of_letter b)

-- Q, R, B, N or q, r, b, n
unfoldable pub promotion_in : ℕ → Option Kind
promotion_in b =
    if b == byte "Q" || b == byte "q" then Some Queen
    else (if b == byte "R" || b == byte "r" then Some Rook else (if b == byte "B" || b == byte "b" then Some Bishop else (if b == byte "N" || b == byte "n" then Some Knight else None)))

-- a promotion that a letter names
abbrev pub named_promotion : Option Kind → Option (Option Kind)
named_promotion None = None
named_promotion (Some kind) = Some (Some kind)

-- after the target: nothing, or the letter of what a pawn becomes, with an = or nothing before it
unfoldable pub ending_in : List ℕ → Option (Option Kind)
ending_in [] = Some None
ending_in (b ∷ []) = named_promotion (promotion_in b)
ending_in (e ∷ b ∷ []) = if e == byte "=" then named_promotion (promotion_in b) else None
ending_in (e ∷ b ∷ c ∷ rest) = None

-- where a man comes from, his target, and what a pawn becomes
abbrev pub course_to : Origin → Option ℕ → Option (Option Kind) → Option Course
course_to origin None ending = None
course_to origin (Some to) None = None
course_to origin (Some to) (Some promo) = Some (record { origin = origin; to = to; promo = promo })

-- the target, and what comes after it
unfoldable pub arrival_square_in : Origin → List ℕ → Option Course
arrival_square_in origin [] = None
arrival_square_in origin (file ∷ []) = None
arrival_square_in origin (file ∷ rank ∷ ending) = course_to origin (square_at (file_in file) (rank_in rank)) (ending_in ending)

-- an x or nothing, and the target
unfoldable pub arrival_in : Origin → List ℕ → Option Course
arrival_in origin [] = None
arrival_in origin (b ∷ rest) = if b == byte "x" then arrival_square_in origin rest else arrival_square_in origin (b ∷ rest)

-- the first of the two, where it is one
abbrev pub or_else : Option Course → Option Course → Option Course
or_else None other = other
or_else (Some course) other = Some course

-- a rank, and then the target
abbrev pub from_rank : Option ℕ → Option ℕ → List ℕ → Option Course
from_rank file None rest = None
from_rank file (Some rank) rest = arrival_in (record { file = file; rank = Some rank }) rest

-- a rank, and what comes after it
unfoldable pub ranked_in : Option ℕ → List ℕ → Option Course
ranked_in file [] = None
ranked_in file (b ∷ rest) = from_rank file (rank_in b) rest

-- a rank or nothing, and what comes after it
unfoldable pub rank_or_not : Option ℕ → List ℕ → Option Course
rank_or_not file text = or_else (arrival_in (record { file = file; rank = None }) text) (ranked_in file text)

-- a file, then perhaps a rank, and then the target
abbrev pub from_file : Option ℕ → List ℕ → Option Course
from_file None rest = None
from_file (Some file) rest = rank_or_not (Some file) rest

-- a file, and what comes after it
unfoldable pub filed_in : List ℕ → Option Course
filed_in [] = None
filed_in (b ∷ rest) = from_file (file_in b) rest

-- a file or nothing, a rank or nothing, an x or nothing, the target, and what a pawn becomes
unfoldable pub course_in : List ℕ → Option Course
course_in text = or_else (rank_or_not None text) (filed_in text)

-- a man that isn't a pawn becomes nothing
abbrev pub piece_of : Kind → Option Course → Option Form
piece_of named None = None
piece_of named (Some course) = elim course.promo [ None ↦ Some (Piece named course) | Some promo ↦ None ]

-- the form of a move without a letter
abbrev pub plain_of : Option Course → Option Form
plain_of None = None
plain_of (Some course) = Some (Plain course)

-- the form of a move with a letter, or without one
abbrev pub lettered : Option Kind → List ℕ → List ℕ → Option Form
lettered None rest text = plain_of (course_in text)
lettered (Some kind) rest text = piece_of kind (course_in rest)

-- a man's letter or none, and its course
unfoldable pub man_in : List ℕ → Option Form
man_in [] = None
man_in (b ∷ rest) = lettered (piece_in b) rest (b ∷ rest)

-- castling, with letters or with zeros
unfoldable pub wing_in : List ℕ → Option Wing
wing_in text =
    if bytes_eq text (codes "O-O") || bytes_eq text (codes "0-0") then Some KingSide
    else (if bytes_eq text (codes "O-O-O") || bytes_eq text (codes "0-0-0") then Some QueenSide else None)

-- castling, or the move of a man
abbrev pub castles_or_man : Option Wing → List ℕ → Option Form
castles_or_man None text = man_in text
castles_or_man (Some wing) text = Some (Castles wing)

-- + and #
abbrev pub marks : List ℕ
marks = codes "+#"

-- the form of a text without marks at its end
abbrev pub bare_form : List ℕ → Option Form
bare_form text = castles_or_man (wing_in text) text

-- the form of a text
unfoldable pub form_in : List ℕ → Option Form
form_in text = bare_form (without_last_gaps marks text)

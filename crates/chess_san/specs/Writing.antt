-- The one text of a legal move in standard algebraic notation (PGN 8.2.3).
--   rivals      the legal moves of other men of like kind to the target
--   origin_of   what distinguishes the man from them: nothing, its file, its rank, or both (PGN 8.2.3.4)
--   is_known_alone  a pawn or a king, whose texts need no look at other men
--   mark_text   # for mate, + for check (PGN 8.2.3.5)
--   san         the text
use Rattle.std.specs.Prelude.{ℕ, ◌+◌, ◌==◌, Bool, false, not, ◌&&◌, ◌||◌, if◌then◌else◌, List, [], ◌∷◌, ◌++◌, filter, Option, Some, None, is_some, codes}
use Rattle.std.specs.Char.{to_ascii_uppercase}
use Rattle.std.specs.Str.{byte}
use Rattle.std.specs.List.{list_any}
use Rattle.chess_types.specs.declared.board.man.Kind.{Kind}
use Rattle.chess_types.specs.declared.board.man.Kind.TheVariants.{Pawn}
use Rattle.chess_types.specs.declared.board.man.Man.{Man}
use Rattle.chess_types.specs.declared.board.position.Wing.TheVariants.{KingSide, QueenSide}
use Rattle.chess_types.specs.board.Squares.{file_of, rank_of}
use Rattle.chess_types.specs.board.Men.{is_king, is_pawn}
use Rattle.chess_types.specs.board.Attack.{in_check}
use Rattle.chess_types.specs.board.MoveParts.{MoveParts}
use Rattle.chess_types.specs.board.Texts.{kind_letter, square_text}
use Rattle.chess_types.specs.board.Position.{PositionParts, man_on}
use Rattle.chess_types.specs.board.After.{after, is_castling, is_en_passant}
use Rattle.chess_types.specs.board.Legal.{legal_moves}
use Rattle.chess_types.specs.board.Outcome.{is_without}
use Rattle.chess_san.specs.declared.form.Origin.{Origin}
use Rattle.chess_san.specs.Naming.{is_kind}

-- the letter of a kind, in upper case: P, N, B, R, Q, K
abbrev pub piece_letter : Kind → ℕ
piece_letter kind = to_ascii_uppercase (kind_letter kind)

-- one of the bytes that begin with the first, if its number is given
abbrev pub byte_from : ℕ → Option ℕ → List ℕ
byte_from first None = []
byte_from first (Some number) = (first + number) ∷ []

-- the letter of a file, if it is given
abbrev pub file_letter : Option ℕ → List ℕ
file_letter = byte_from (byte "a")

-- the digit of a rank, if it is given
abbrev pub rank_digit : Option ℕ → List ℕ
rank_digit = byte_from (byte "1")

-- a man of the kind on another square goes to the target
abbrev pub is_rival : PositionParts → Kind → ℕ → ℕ → MoveParts → Bool
is_rival p kind from to n = n.to == to && not (n.from == from) && is_kind kind (man_on p n.from)

-- the moves of other men of the kind and colour that may go to the target
unfoldable pub rivals : PositionParts → Kind → ℕ → ℕ → List MoveParts
rivals p kind from to = filter (is_rival p kind from to) (legal_moves p)

-- one of them comes from the file, or from the rank
abbrev pub share_file : List MoveParts → ℕ → Bool
share_file moves from = list_any (λ n. file_of n.from == file_of from) moves

-- one of the moves begins on the same rank
abbrev pub share_rank : List MoveParts → ℕ → Bool
share_rank moves from = list_any (λ n. rank_of n.from == rank_of from) moves

-- a pawn or a king, whose texts need no look at other men
abbrev pub is_known_alone : Option Man → Bool
is_known_alone None = false
is_known_alone (Some man) = is_pawn man.kind || is_king man.kind

-- nothing said of where a man comes from
abbrev pub nowhere : Origin
nowhere = record { file = None; rank = None }

-- nothing where there is none; the file, where none shares it; else the rank, where none shares that; else both
abbrev pub origin_by : (none file rank : Bool) → ℕ → Origin
origin_by none file rank from =
    if none then nowhere
    else (if not file then record { file = Some (file_of from); rank = None }
    else (if not rank then record { file = None; rank = Some (rank_of from) }
    else record { file = Some (file_of from); rank = Some (rank_of from) }))

-- what distinguishes a man from others
unfoldable pub origin_among : List MoveParts → ℕ → Origin
origin_among others from = origin_by (is_without others) (share_file others from) (share_rank others from) from

-- the file, the rank or both, where rivals need it
abbrev pub origin_of : PositionParts → Kind → MoveParts → Origin
origin_of p kind m = origin_among (rivals p kind m.from m.to) m.from

-- a man stands on the target, or a pawn captures en passant
abbrev pub captures : PositionParts → Man → MoveParts → Bool
captures p man m = is_some (man_on p m.to) || is_en_passant p.target man m

-- `x` for a capture
abbrev pub capture_text : Bool → List ℕ
capture_text taken = if taken then codes "x" else []

-- `=` and the letter of what a pawn becomes
abbrev pub becoming_text : Option Kind → List ℕ
becoming_text None = []
becoming_text (Some kind) = byte "=" ∷ piece_letter kind ∷ []

-- a pawn: where it captures, its file and x; the target; what it becomes
unfoldable pub pawn_text : Bool → MoveParts → List ℕ
pawn_text taken m = file_letter (if taken then Some (file_of m.from) else None) ++ (capture_text taken ++ (square_text m.to ++ becoming_text m.promo))

-- another man: its letter, what distinguishes it from others, x where it captures, the target
unfoldable pub piece_text : Kind → Origin → Bool → ℕ → List ℕ
piece_text kind origin taken to = piece_letter kind ∷ (file_letter origin.file ++ (rank_digit origin.rank ++ (capture_text taken ++ square_text to)))

-- a man of the kind that doesn't castle, where that distinguishes it from others
abbrev pub step_by : PositionParts → Kind → Origin → Man → MoveParts → List ℕ
step_by p Pawn origin man m = pawn_text (captures p man m) m
step_by p kind origin man m = piece_text kind origin (captures p man m) m.to

-- a man that doesn't castle
abbrev pub step_text : PositionParts → Kind → Man → MoveParts → List ℕ
step_text p kind man m = step_by p kind (origin_of p kind m) man m

-- the text of a man's move without its mark of check or mate, where that distinguishes it from others
abbrev pub text_by : PositionParts → Man → Origin → MoveParts → List ℕ
text_by p man origin m =
    if is_castling man KingSide m then codes "O-O"
    else (if is_castling man QueenSide m then codes "O-O-O" else step_by p man.kind origin man m)

-- the text of a move without its mark of check or mate
abbrev pub bare_text : PositionParts → Option Man → MoveParts → List ℕ
bare_text p None m = []
bare_text p (Some man) m = text_by p man (origin_of p man.kind m) m

-- # where the side to move is mated, else + where it is in check
unfoldable pub mark_text : PositionParts → List ℕ
mark_text p = if in_check (man_on p) p.side then (if is_without (legal_moves p) then codes "#" else codes "+") else []

-- the text of a move (PGN 8.2.3)
unfoldable pub san : PositionParts → MoveParts → List ℕ
san p m = bare_text p (man_on p m.from) m ++ mark_text (after p m)

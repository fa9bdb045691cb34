-- The texts that name squares, men and moves (PGN 8.2.3.2 for squares, 16.1.3.1 for men; the long algebraic notation of UCI for
-- moves).
--   square_text        file letter a to h, then rank digit 1 to 8
--   kind_letter        p, n, b, r, q or k
--   kind_of_letter     the kind that P, N, B, R, Q or K stands for
--   man_letter         a man's letter, White's in upper case; man_of_letter, the man that a letter stands for
--   move_text          the square left, the square reached, and what a pawn becomes
--   names_promotion    a move to play names no kind, or a queen, rook, bishop or knight
use Rattle.std.specs.Prelude.{◌≡◌, ℕ, ◌+◌, ◌==◌, Bool, true, false, if◌then◌else◌, List, [], ◌∷◌, ◌++◌, Option, Some, None, option_map}
use Rattle.std.specs.Char.{is_ascii_uppercase, to_ascii_uppercase}
use Rattle.std.specs.Str.{byte}
use Rattle.chess_types.specs.declared.board.man.Colour.{Colour}
use Rattle.chess_types.specs.declared.board.man.Colour.TheVariants.{White, Black}
use Rattle.chess_types.specs.declared.board.man.Man.{Man}
use Rattle.chess_types.specs.declared.board.man.Kind.{Kind}
use Rattle.chess_types.specs.declared.board.man.Kind.TheVariants.{Pawn, Knight, Bishop, Rook, Queen, King}
use Rattle.chess_types.specs.board.Squares.{file_of, rank_of}
use Rattle.chess_types.specs.board.MoveParts.{MoveParts}

-- e2 is the bytes 101 and 50: the letter a is 97, the digit 1 is 49
abbrev pub square_text : ℕ → List ℕ
square_text s = (byte "a" + file_of s) ∷ (byte "1" + rank_of s) ∷ []

-- the letter of a kind, in lower case: p, n, b, r, q, k
abbrev pub kind_letter : Kind → ℕ
kind_letter Pawn = byte "p"
kind_letter Knight = byte "n"
kind_letter Bishop = byte "b"
kind_letter Rook = byte "r"
kind_letter Queen = byte "q"
kind_letter King = byte "k"

-- the kind of an upper-case letter
abbrev pub kind_of_letter : ℕ → Option Kind
kind_of_letter letter =
    if letter == byte "P" then Some Pawn
    else (if letter == byte "N" then Some Knight
    else (if letter == byte "B" then Some Bishop
    else (if letter == byte "R" then Some Rook
    else (if letter == byte "Q" then Some Queen
    else (if letter == byte "K" then Some King
    else None)))))

-- White's letters are upper-case, Black's lower-case.
abbrev pub letter_in_case : Colour → ℕ → ℕ
letter_in_case White letter = to_ascii_uppercase letter
letter_in_case Black letter = letter

-- the letter of a man: upper case for White, lower case for Black
abbrev pub man_letter : Man → ℕ
man_letter man = letter_in_case man.colour (kind_letter man.kind)

-- the colour of a letter by its case
abbrev pub colour_of_letter : ℕ → Colour
colour_of_letter letter = if is_ascii_uppercase letter then White else Black

-- the man of a letter
abbrev pub man_of_letter : ℕ → Option Man
man_of_letter letter =
    option_map (λ kind. record { colour = colour_of_letter letter; kind = kind }) (kind_of_letter (to_ascii_uppercase letter))

-- what a pawn becomes, where the move says so
abbrev pub promotion_text : Option Kind → List ℕ
promotion_text None = []
promotion_text (Some kind) = kind_letter kind ∷ []

-- e2e4, e1g1, e7e8q
abbrev pub move_text : MoveParts → List ℕ
move_text m = square_text m.from ++ square_text m.to ++ promotion_text m.promo

-- nothing, or what a pawn may become on the last rank (FIDE Laws, article 3.7.3.3)
abbrev pub names_promotion : Option Kind → Bool
names_promotion None = true
names_promotion (Some Pawn) = false
names_promotion (Some Knight) = true
names_promotion (Some Bishop) = true
names_promotion (Some Rook) = true
names_promotion (Some Queen) = true
names_promotion (Some King) = false

-- no promotion, or one to a queen, rook, bishop or knight
abbrev pub IsPromotion : Option Kind → Type 0
IsPromotion promo = names_promotion promo ≡ true

-- The meaning of a move's text.
--   byte_marks   the meaning of a byte between its neighbours: a man's capital letter, a file's small letter, a rank's digit, O for a circle of castling, = and a
--                capital letter for the man that a pawn becomes, + or #; a sign between the parts of a move has no meaning
--   move_marks   the meaning of all bytes, one after the other
--   meant        the text as a kind of repair reads it: it drops the P of a pawn, makes a man's small letter large, or makes a file's large letter before a rank
--                small; each kind does one of these, and only at the first byte
--   IsMove       the first text, as a kind of repair reads it, has the meaning of the second
use Rattle.std.specs.Prelude.{◌≡◌, ℕ, Bool, false, ◌||◌, ◌&&◌, ◌==◌, not, nat_le, ◌+◌, ◌-◌, if◌then◌else◌, List, [], ◌∷◌, ◌++◌}
use Rattle.std.specs.Str.{byte}
use Rattle.chess_repair.specs.declared.repair.RepairKind.{RepairKind}
use Rattle.chess_repair.specs.declared.repair.RepairKind.TheVariants as k

-- a rank's digit
unfoldable pub is_rank : ℕ → Bool
is_rank b = nat_le (byte "1") b && nat_le b (byte "8")

-- the letter of a man that a pawn may become, of either size
unfoldable pub is_piece : ℕ → Bool
is_piece b = b == byte "Q" || b == byte "R" || b == byte "B" || b == byte "N" || b == byte "q" || b == byte "r" || b == byte "b" || b == byte "n"

-- what comes before that letter: the rank of the pawn's last square, or a sign
unfoldable pub ends_square : ℕ → Bool
ends_square b = b == byte "1" || b == byte "8" || b == byte "=" || b == byte "/" || b == byte "("

-- between the parts of a move
unfoldable pub is_sign : ℕ → Bool
is_sign b = b == byte "-" || b == byte ":" || b == byte "x" || b == byte "=" || b == byte "(" || b == byte ")" || b == byte "/"

-- of castling
unfoldable pub is_circle : ℕ → Bool
is_circle b = b == byte "O" || b == byte "o" || b == byte "0"

-- the large letter for a small one
unfoldable pub capital : ℕ → ℕ
capital b = if nat_le (byte "a") b && nat_le b (byte "z") then b - 32 else b

-- the small letter for a large one
unfoldable pub small : ℕ → ℕ
small b = if nat_le (byte "A") b && nat_le b (byte "Z") then b + 32 else b

-- the next byte is a rank's digit
abbrev pub has_rank_next : List ℕ → Bool
has_rank_next [] = false
has_rank_next (b ∷ more) = is_rank b

-- (in Ra8b8 the letter b comes before a rank: it is a file)
abbrev pub byte_marks : ℕ → ℕ → List ℕ → List ℕ
byte_marks before b more =
    if (is_piece b && ends_square before) && not (has_rank_next more) then byte "=" ∷ capital b ∷ []
    else (if is_sign b then [] else (if is_circle b then byte "O" ∷ [] else b ∷ []))

-- the meaning of the bytes after one
abbrev pub marks_after : ℕ → List ℕ → List ℕ
marks_after before [] = []
marks_after before (b ∷ more) = byte_marks before b more ++ marks_after b more

-- (no byte comes before the first)
abbrev pub move_marks : List ℕ → List ℕ
move_marks text = marks_after 0 text

-- a man's letter that is small; b is a file's
unfoldable pub is_small : ℕ → Bool
is_small b = b == byte "n" || b == byte "r" || b == byte "q" || b == byte "k"

-- a file's letter that is large; B is the bishop's
unfoldable pub is_large : ℕ → Bool
is_large b = b == byte "A" || (nat_le (byte "C") b && nat_le b (byte "H"))

-- the first byte as a kind of repair reads it, before the other bytes
abbrev pub first_meant : RepairKind → ℕ → List ℕ → List ℕ
first_meant k.Pawn b more = if b == byte "P" then [] else b ∷ []
first_meant k.Small b more = if is_small b then capital b ∷ [] else b ∷ []
first_meant k.Large b more = if is_large b && has_rank_next more then small b ∷ [] else b ∷ []
first_meant _ b more = b ∷ []

abbrev pub meant : RepairKind → List ℕ → List ℕ
meant kind [] = []
meant kind (b ∷ more) = first_meant kind b more ++ more

abbrev pub IsMove : RepairKind → List ℕ → List ℕ → Type 0
IsMove kind was now = move_marks (meant kind was) ≡ move_marks now

-- Polyglot's opening books (http://hgm.nubati.net/book_format.html): 16 bytes an entry, in ascending order of keys. Each number's first
-- byte is its greatest.
--   big_endian          the number of some bytes
--   entries_in          how many entries a book has; key_at, the key of one
--   IsBook              the keys ascend
--   AreFound            which entries are those of a key
--   promotion_named, move_named   the move of a number: three bits each for the file and the rank where it ends, the file and the rank where it
--                       begins, and for what a pawn becomes
--   castled             a king's move onto its own rook's home is its castling
--   named_move          the move that a number stands for; book_move, if it is legal
use Rattle.std.specs.Prelude.{◌≡◌, ℕ, zero, suc, ◌+◌, ◌*◌, ◌/◌, ◌%◌, ◌==◌, ◌<◌, ◌≤◌, ◌&&◌, if◌then◌else◌, Bool, List, length, slice_index, Option, Some, None}
use Rattle.chess_types.specs.declared.board.man.Colour.{Colour}
use Rattle.chess_types.specs.declared.board.man.Kind.{Kind}
use Rattle.chess_types.specs.declared.board.man.Kind.TheVariants.{Knight, Bishop, Rook, Queen}
use Rattle.chess_types.specs.declared.board.position.Wing.{Wing}
use Rattle.chess_types.specs.declared.board.position.Wing.TheVariants.{KingSide, QueenSide}
use Rattle.chess_types.specs.board.Board.{Men}
use Rattle.chess_types.specs.board.Men.{is_king_of}
use Rattle.chess_types.specs.board.MoveParts.{MoveParts}
use Rattle.chess_types.specs.board.Position.{PositionParts, man_on, king_home, rook_home}
use Rattle.chess_types.specs.board.Pseudo.{reached}
use Rattle.chess_types.specs.board.Legal.{is_legal}

-- the number of so many bytes from a place on, the greatest first
abbrev pub big_endian : List ℕ → ℕ → ℕ → ℕ
big_endian bytes at zero = 0
big_endian bytes at (suc n) = big_endian bytes at n * 256 + slice_index bytes (at + n)

-- how many whole entries there are
abbrev pub entries_in : List ℕ → ℕ
entries_in book = length book / 16

-- the key of an entry, which are counted from 0
unfoldable pub key_at : List ℕ → ℕ → ℕ
key_at book i = big_endian book (16 * i) 8

-- the keys ascend
abbrev pub IsBook : List ℕ → Type 0
IsBook book = (i j : ℕ) → i ≤ j → j < entries_in book → key_at book i ≤ key_at book j

-- the entries of a key are so many from the first on; in a book all others have a smaller key before them, or a greater one after them
pub record AreFound (book : List ℕ) (key first count : ℕ) : Type 0 where
  pub within : first + count ≤ entries_in book
  pub found : (i : ℕ) → first ≤ i → i < first + count → key_at book i ≡ key
  pub before : IsBook book → (i : ℕ) → i < first → key_at book i < key
  pub after : IsBook book → (i : ℕ) → first + count ≤ i → i < entries_in book → key < key_at book i

-- what a pawn becomes; the codes 5 to 7 mean nothing
abbrev pub promotion_named : ℕ → Option (Option Kind)
promotion_named code =
    if code == 0 then Some None
    else (if code == 1 then Some (Some Knight)
    else (if code == 2 then Some (Some Bishop)
    else (if code == 3 then Some (Some Rook)
    else (if code == 4 then Some (Some Queen) else None))))

-- the move of a number, as it is written
abbrev pub move_promoting : ℕ → Option (Option Kind) → Option MoveParts
move_promoting number None = None
move_promoting number (Some promo) = Some (record { from = number / 64 % 64; to = number % 64; promo = promo })

abbrev pub move_named : ℕ → Option MoveParts
move_named number = move_promoting number (promotion_named (number / 4096 % 8))

-- the king goes from its home to that wing's rook's
abbrev pub goes_to_rook : Men → Colour → Wing → MoveParts → Bool
goes_to_rook man_on side wing m = is_king_of side (man_on m.from) && m.from == king_home side && m.to == rook_home side wing

-- the move that it stands for
abbrev pub castled : Men → Colour → MoveParts → MoveParts
castled man_on side m =
    if goes_to_rook man_on side KingSide m then record { from = m.from; to = reached side KingSide; promo = m.promo }
    else (if goes_to_rook man_on side QueenSide m then record { from = m.from; to = reached side QueenSide; promo = m.promo } else m)

-- the move that the number stands for
abbrev pub castled_as : Men → Colour → Option MoveParts → Option MoveParts
castled_as man_on side None = None
castled_as man_on side (Some m) = Some (castled man_on side m)

abbrev pub named_move : Men → Colour → ℕ → Option MoveParts
named_move man_on side number = castled_as man_on side (move_named number)

-- where it is legal
abbrev pub if_legal : PositionParts → Option MoveParts → Option MoveParts
if_legal p None = None
if_legal p (Some m) = if is_legal p m then Some m else None

-- the legal move, if it stands for one
unfoldable pub book_move : PositionParts → ℕ → Option MoveParts
book_move p number = if_legal p (named_move (man_on p) p.side number)

-- The text of a move is a word that no marker and no number is.
use Rattle.std.proofs.Common.{◌≡◌, ℕ, ◌<◌, ◌≤◌, ◌+◌, Bool, true, false, if◌then◌else◌, cond, List, [], ◌∷◌, ◌++◌, codes, bytes_eq, refl, sym, subst, arith}
use Rattle.std.specs.Prelude.{Option, Some, None}
use Rattle.std.proofs.lemmas.Bool.Decides.{nat_tests}
use Rattle.chess_types.specs.declared.board.man.Kind.{Kind}
use Rattle.chess_types.specs.declared.board.man.Kind.TheVariants.{Pawn, Knight, Bishop, Rook, Queen, King}
use Rattle.chess_types.specs.declared.board.man.Man.{Man}
use Rattle.chess_types.specs.declared.board.position.Wing.TheVariants.{KingSide, QueenSide}
use Rattle.chess_types.specs.board.After.{after, is_castling}
use Rattle.chess_types.specs.board.Attack.{in_check}
use Rattle.chess_types.specs.board.Legal.{is_legal, legal_moves}
use Rattle.chess_types.specs.board.MoveParts.{MoveParts}
use Rattle.chess_types.specs.board.Outcome.{is_without}
use Rattle.chess_types.specs.board.Position.{PositionParts, man_on}
use Rattle.chess_types.specs.board.Squares.{file_of, rank_of}
use Rattle.chess_types.specs.board.Texts.{square_text}
use Rattle.chess_types.proofs.AllMoves.{IsMove}
use Rattle.chess_items.specs.Items.{Each, is_digit, is_name_byte, is_word_byte, word_item}
use Rattle.chess_san.specs.declared.form.Origin.{Origin}
use Rattle.chess_san.specs.Writing.{bare_text, becoming_text, capture_text, captures, file_letter, mark_text, origin_among, origin_by, origin_of, pawn_text, piece_letter, piece_text, rank_digit, rivals, san, share_file, share_rank, step_text}
use Rattle.chess_san.proofs.SameLemmas.{mover}
use Rattle.chess_pgn.proofs.PieceLemmas.{IsText}

each_append : (p : ℕ → Bool) (a b : List ℕ) → Each p a → Each p b → Each p (a ++ b)
each_append p [] b e h = h
each_append p (x ∷ a) b e h = (e.0, each_append p a b e.1 h)

letter_in_word : (b : ℕ) → 97 ≤ b → b ≤ 122 → is_word_byte b ≡ true
unfolding is_word_byte is_name_byte is_digit
letter_in_word b l h = grind (arith, nat_tests, l, h)

letter_no_digit : (b : ℕ) → 58 ≤ b → is_digit b ≡ false
unfolding is_digit
letter_no_digit b l = grind (arith, nat_tests, l)

rank_in_word : (b : ℕ) → 48 ≤ b → b ≤ 57 → is_word_byte b ≡ true
unfolding is_word_byte is_name_byte is_digit
rank_in_word b l h = grind (arith, nat_tests, l, h)

-- of bytes of words, of which the first is no digit
abbrev BeginsWithLetter : List ℕ → Type 0
BeginsWithLetter [] = ⊥
BeginsWithLetter (b ∷ text) = is_digit b ≡ false

record IsLettered (text : List ℕ) : Type 0 where
  each : Each is_word_byte text
  letter : BeginsWithLetter text

begins_append : (a b : List ℕ) → BeginsWithLetter a → BeginsWithLetter (a ++ b)
begins_append [] b h = absurd h
begins_append (x ∷ a) b h = h

lettered_on : (a b : List ℕ) → IsLettered a → Each is_word_byte b → IsLettered (a ++ b)
lettered_on a b is e = record { each = each_append is_word_byte a b is.each e; letter = begins_append a b is.letter }

digit_first : (b d : ℕ) (text other : List ℕ) → is_digit b ≡ false → is_digit d ≡ true → bytes_eq (b ∷ text) (d ∷ other) ≡ false
unfolding is_digit
digit_first b d text other e h = grind (arith, nat_tests, e, h)

lettered_text : (text : List ℕ) → IsLettered text → IsText text
unfolding word_item is_digit
lettered_text [] is = absurd is.letter
lettered_text (b ∷ text) is = record {
  some = λ h. cc;
  each = is.each;
  item = rw (is.letter, digit_first b 49 text (codes "-0") is.letter refl, digit_first b 48 text (codes "-1") is.letter refl, digit_first b 49 text (codes "/2-1/2") is.letter refl) refl;
}

-- ---- the parts of a move's text

square_word : (s : ℕ) → s < 64 → IsLettered (square_text s)
square_word s low = record { each = (letter_in_word (97 + file_of s) (omega arith) (omega arith), (rank_in_word (49 + rank_of s) (omega arith) (omega arith), tt)); letter = letter_no_digit (97 + file_of s) (omega arith) }

capture_word : (taken : Bool) → Each is_word_byte (capture_text taken)
unfolding is_word_byte is_name_byte is_digit
capture_word true = (refl, tt)
capture_word false = tt

piece_word : (kind : Kind) → IsLettered (piece_letter kind ∷ [])
unfolding is_word_byte is_name_byte is_digit
piece_word Pawn = record { each = (refl, tt); letter = refl }
piece_word _ = record { each = (refl, tt); letter = refl }

becoming_word : (promo : Option Kind) → Each is_word_byte (becoming_text promo)
unfolding is_word_byte is_name_byte is_digit
becoming_word None = tt
becoming_word (Some kind) = (refl, (piece_word kind).each)

file_word : (f : ℕ) → f < 8 → IsLettered (file_letter (Some f))
file_word f low = record { each = (letter_in_word (97 + f) (omega arith) (omega arith), tt); letter = letter_no_digit (97 + f) (omega arith) }

abbrev IsSmallOrigin : Origin → Type 0
IsSmallOrigin origin = Each is_word_byte (file_letter origin.file) × Each is_word_byte (rank_digit origin.rank)

origin_word : (none file rank : Bool) (from : ℕ) → from < 64 → IsSmallOrigin (origin_by none file rank from)
origin_word true file rank from low = (tt, tt)
origin_word false false rank from low = ((file_word (file_of from) (omega arith)).each, tt)
origin_word false true false from low = (tt, (rank_in_word (49 + rank_of from) (omega arith) (omega arith), tt))
origin_word false true true from low = ((file_word (file_of from) (omega arith)).each, (rank_in_word (49 + rank_of from) (omega arith) (omega arith), tt))

pawn_word : (taken : Bool) (m : MoveParts) → IsMove m → IsLettered (pawn_text taken m)
unfolding pawn_text
pawn_word true m on =
    lettered_on (file_letter (Some (file_of m.from))) _ (file_word (file_of m.from) (omega arith)) (each_append is_word_byte (capture_text true) (square_text m.to ++ becoming_text m.promo) (capture_word true) (each_append is_word_byte (square_text m.to) (becoming_text m.promo) (square_word m.to on.to).each (becoming_word m.promo)))
pawn_word false m on = lettered_on (square_text m.to) _ (square_word m.to on.to) (becoming_word m.promo)

man_word : (kind : Kind) (origin : Origin) (taken : Bool) (to : ℕ) → IsSmallOrigin origin → to < 64 → IsLettered (piece_text kind origin taken to)
unfolding piece_text
man_word kind origin taken to small low =
    lettered_on (piece_letter kind ∷ []) _ (piece_word kind)
    (each_append is_word_byte (file_letter origin.file) _ small.0 (each_append is_word_byte (rank_digit origin.rank) _ small.1 (each_append is_word_byte (capture_text taken) _ (capture_word taken) (square_word to low).each)))

own_word : (p : PositionParts) (kind : Kind) (m : MoveParts) → IsMove m → IsSmallOrigin (origin_of p kind m)
unfolding origin_among
own_word p kind m on = origin_word (is_without (rivals p kind m.from m.to)) (share_file (rivals p kind m.from m.to) m.from) (share_rank (rivals p kind m.from m.to) m.from) m.from on.from

step_word : (p : PositionParts) (kind : Kind) (man : Man) (m : MoveParts) → IsMove m → IsLettered (step_text p kind man m)
step_word p Pawn man m on = pawn_word (captures p man m) m on
step_word p Knight man m on = man_word Knight (origin_of p Knight m) (captures p man m) m.to (own_word p Knight m on) on.to
step_word p Bishop man m on = man_word Bishop (origin_of p Bishop m) (captures p man m) m.to (own_word p Bishop m on) on.to
step_word p Rook man m on = man_word Rook (origin_of p Rook m) (captures p man m) m.to (own_word p Rook m on) on.to
step_word p Queen man m on = man_word Queen (origin_of p Queen m) (captures p man m) m.to (own_word p Queen m on) on.to
step_word p King man m on = man_word King (origin_of p King m) (captures p man m) m.to (own_word p King m on) on.to

short_word : IsLettered (codes "O-O")
unfolding is_word_byte is_name_byte is_digit
short_word = record { each = (refl, (refl, (refl, tt))); letter = refl }

long_word : IsLettered (codes "O-O-O")
unfolding is_word_byte is_name_byte is_digit
long_word = record { each = (refl, (refl, (refl, (refl, (refl, tt))))); letter = refl }

either_word : (v : Bool) (a b : List ℕ) → IsLettered a → IsLettered b → IsLettered (if v then a else b)
either_word true a b e h = e
either_word false a b e h = h

mark_word : (check over : Bool) → Each is_word_byte (cond check (cond over (codes "#") (codes "+")) [])
unfolding is_word_byte is_name_byte is_digit
mark_word true true = (refl, tt)
mark_word true false = (refl, tt)
mark_word false over = tt

bare_word : (p : PositionParts) (man : Man) (m : MoveParts) → IsMove m → IsLettered (bare_text p (Some man) m)
bare_word p man m on =
    either_word (is_castling man KingSide m) _ _ short_word (either_word (is_castling man QueenSide m) _ _ long_word (step_word p man.kind man m on))

-- what is written of a legal move
pub move_word : (p : PositionParts) (m : MoveParts) → IsMove m → is_legal p m ≡ true → IsText (san p m)
unfolding san mark_text
move_word p m on legal =
    let a = mover p m legal in
    let q : PositionParts = after p m in
    lettered_text (bare_text p (man_on p m.from) m ++ mark_text q)
    (lettered_on (bare_text p (man_on p m.from) m) (mark_text q)
    (subst (λ (o : Option Man). IsLettered (bare_text p o m)) (sym a.here) (bare_word p a.man m on))
    (mark_word (in_check (man_on q) q.side) (is_without (legal_moves q))))

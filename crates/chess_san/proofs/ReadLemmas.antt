-- What is written of a move reads as its form.
use Rattle.std.proofs.Common.{◌≡◌, ◌≢◌, ℕ, ◌+◌, ◌<◌, ◌≤◌, Bool, true, false, cond, List, ◌∷◌, ◌++◌, Option, Some, None, refl, arith}
use Rattle.std.specs.Option.{IfSome}
use Rattle.std.proofs.lemmas.Bool.{ne_eqb, true≢false}
use Rattle.chess_types.specs.declared.board.man.Kind.{Kind}
use Rattle.chess_types.specs.declared.board.man.Kind.TheVariants.{Pawn, Knight, Bishop, Rook, Queen, King}
use Rattle.chess_types.specs.board.Squares.{file_of, rank_of}
use Rattle.chess_types.specs.board.MoveParts.{MoveParts}
use Rattle.chess_types.specs.board.Men.{is_pawn}
use Rattle.chess_types.specs.board.Texts.{square_text, names_promotion}
use Rattle.byte_streams.specs.Words.{is_gap}
use Rattle.chess_san.specs.declared.form.Origin.{Origin}
use Rattle.chess_san.specs.declared.form.Course.{Course}
use Rattle.chess_san.specs.declared.form.Form.TheVariants.{Piece, Plain}
use Rattle.chess_san.specs.Forms.{marks, piece_in, course_in, man_in, wing_in, bare_form}
use Rattle.chess_san.specs.Writing.{piece_letter, file_letter, rank_digit, capture_text, becoming_text, pawn_text, piece_text}
use Rattle.chess_san.proofs.TextLemmas.{course_read}
use Rattle.chess_san.proofs.EndLemmas.{Unmarked, unmarked_cons, unmarked_append}

no_wing : (b : ℕ) (rest : List ℕ) → b ≢ 79 → b ≢ 48 → wing_in (b ∷ rest) ≡ None
unfolding wing_in
no_wing b rest h g = rw (ne_eqb b 79 h, ne_eqb b 48 g) refl

no_piece : (b : ℕ) → 97 ≤ b → piece_in b ≡ None
unfolding piece_in
no_piece b high =
    rw (ne_eqb b 80 (λ e. omega arith), ne_eqb b 78 (λ e. omega arith), ne_eqb b 66 (λ e. omega arith), ne_eqb b 82 (λ e. omega arith), ne_eqb b 81 (λ e. omega arith), ne_eqb b 75 (λ e. omega arith)) refl

abbrev pub step_course : Origin → ℕ → Course
step_course origin to = record { origin = origin; to = to; promo = None }

lettered_read : (letter : ℕ) (kind : Kind) (rest : List ℕ) (origin : Origin) (to : ℕ) → piece_in letter ≡ Some kind → letter ≢ 79 → letter ≢ 48 →
    course_in rest ≡ Some (step_course origin to) → bare_form (letter ∷ rest) ≡ Some (Piece kind (step_course origin to))
unfolding man_in
lettered_read letter k rest origin to is h g read = rw (no_wing letter rest h g, is, read) refl

plain_read : (b : ℕ) (rest : List ℕ) (course : Course) → 97 ≤ b → course_in (b ∷ rest) ≡ Some course → bare_form (b ∷ rest) ≡ Some (Plain course)
unfolding man_in
plain_read b rest course high read = rw (no_wing b rest (λ e. omega arith) (λ e. omega arith), no_piece b high, read) refl

module _ (origin : Origin) (taken : Bool) (to : ℕ) (file : IfSome origin.file (λ f. f < 8)) (rank : IfSome origin.rank (λ r. r < 8)) (on : to < 64) where
  abbrev rest_text : List ℕ
  rest_text = file_letter origin.file ++ (rank_digit origin.rank ++ (capture_text taken ++ square_text to))

  rest_read : course_in rest_text ≡ Some (step_course origin to)
  rest_read = course_read to on None refl origin.file origin.rank taken file rank

  pub piece_read : (kind : Kind) → is_pawn kind ≡ false → bare_form (piece_text kind origin taken to) ≡ Some (Piece kind (step_course origin to))
  unfolding piece_text piece_in
  piece_read Pawn h = absurd (true≢false h)
  piece_read Knight h = lettered_read 78 Knight rest_text origin to refl (λ e. omega arith) (λ e. omega arith) rest_read
  piece_read Bishop h = lettered_read 66 Bishop rest_text origin to refl (λ e. omega arith) (λ e. omega arith) rest_read
  piece_read Rook h = lettered_read 82 Rook rest_text origin to refl (λ e. omega arith) (λ e. omega arith) rest_read
  piece_read Queen h = lettered_read 81 Queen rest_text origin to refl (λ e. omega arith) (λ e. omega arith) rest_read
  piece_read King h = lettered_read 75 King rest_text origin to refl (λ e. omega arith) (λ e. omega arith) rest_read

abbrev pub pawn_file : Bool → ℕ → Option ℕ
pawn_file taken from = cond taken (Some (file_of from)) None

abbrev pub pawn_course : Bool → MoveParts → Course
pawn_course taken m = record { origin = record { file = pawn_file taken m.from; rank = None }; to = m.to; promo = m.promo }

pub pawn_read : (taken : Bool) (m : MoveParts) → m.to < 64 → names_promotion m.promo ≡ true → bare_form (pawn_text taken m) ≡ Some (Plain (pawn_course taken m))
unfolding pawn_text
pawn_read true m on names =
    plain_read (97 + file_of m.from) _ (pawn_course true m) (omega arith) (course_read m.to on m.promo names (Some (file_of m.from)) None true (omega arith) tt)
pawn_read false m on names = plain_read (97 + file_of m.to) _ (pawn_course false m) (omega arith) (course_read m.to on m.promo names None None false tt tt)

digit_plain : (r : ℕ) → is_gap marks (49 + r) ≡ false
digit_plain r = rw (ne_eqb 43 (49 + r) (λ e. omega arith), ne_eqb 35 (49 + r) (λ e. omega arith)) refl

promotion_plain : (to : ℕ) (promo : Option Kind) → Unmarked (square_text to ++ becoming_text promo)
promotion_plain to None = digit_plain (rank_of to)
promotion_plain to (Some Pawn) = refl
promotion_plain to _ = refl

pub piece_plain : (kind : Kind) (origin : Origin) (taken : Bool) (to : ℕ) → Unmarked (piece_text kind origin taken to)
unfolding piece_text
piece_plain kind origin taken to =
    let a : List ℕ = capture_text taken ++ square_text to in
    let b : List ℕ = rank_digit origin.rank ++ a in
    let c : List ℕ = file_letter origin.file ++ b in
    unmarked_cons (piece_letter kind) c
    (unmarked_append (file_letter origin.file) b (unmarked_append (rank_digit origin.rank) a (unmarked_append (capture_text taken) (square_text to) (digit_plain (rank_of to)))))

pub pawn_plain : (taken : Bool) (m : MoveParts) → Unmarked (pawn_text taken m)
unfolding pawn_text
pawn_plain taken m =
    let a : List ℕ = square_text m.to ++ becoming_text m.promo in
    let b : List ℕ = capture_text taken ++ a in
    unmarked_append (file_letter (pawn_file taken m.from)) b (unmarked_append (capture_text taken) a (promotion_plain m.to m.promo))

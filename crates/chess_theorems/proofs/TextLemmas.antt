-- The text of a legal move is read as that move, so no other has it; and it is short.
use Rattle.std.proofs.Common.{ℕ, ◌≤◌, ◌++◌, Bool, true, false, List, [], length, Option, Some, None, codes, if◌then◌else◌, arith, ◌≡◌, Ok, Err, Result, sym, ap, ◌∙◌}
use Rattle.std.specs.List.{Contains}
use Rattle.std.proofs.lemmas.List.{length-append}
use Rattle.chess_types.specs.declared.board.man.Kind.{Kind}
use Rattle.chess_types.specs.declared.board.man.Kind.TheVariants.{Pawn}
use Rattle.chess_types.specs.declared.board.man.Man.{Man}
use Rattle.chess_types.specs.declared.board.position.Wing.TheVariants.{KingSide, QueenSide}
use Rattle.chess_types.specs.board.MoveParts.{MoveParts}
use Rattle.chess_types.specs.board.Squares.{file_of}
use Rattle.chess_types.specs.board.Texts.{square_text}
use Rattle.chess_types.specs.board.Attack.{in_check}
use Rattle.chess_types.specs.board.After.{after, is_castling}
use Rattle.chess_types.specs.board.Outcome.{is_without}
use Rattle.chess_types.specs.board.Position.{PositionParts, man_on}
use Rattle.chess_types.specs.board.Legal.{legal_moves}
use Rattle.chess_san.specs.declared.fault.SanFault.{SanFault}
use Rattle.chess_san.specs.Naming.{san_reading}
use Rattle.chess_san.specs.declared.form.Origin.{Origin}
use Rattle.chess_san.specs.Writing.{bare_text, becoming_text, capture_text, captures, file_letter, mark_text, origin_of, pawn_text, piece_text, rank_digit, san, step_text}
use Rattle.chess_moves.proofs.LegalLaws.{listed_legal}
use Rattle.chess_san.proofs.LawLemmas.{read_back}

abbrev Read : Type 0
Read = Result MoveParts SanFault

move_of : MoveParts → Read → MoveParts
move_of m (Ok x) = x
move_of m (Err f) = m

same_ok : (m n : MoveParts) → (reading_m reading_n : Read) → reading_m ≡ Ok m → reading_n ≡ Ok n → reading_m ≡ reading_n → m ≡ n
unfolding move_of
same_ok m n a b is_m is_n same = sym (ap (move_of m) is_m) ∙ ap (move_of m) same ∙ ap (move_of m) is_n

pub one_text_one_move : (p : PositionParts) (m n : MoveParts) → Contains (legal_moves p) m → Contains (legal_moves p) n → san p m ≡ san p n → m ≡ n
one_text_one_move p m n hm hn same =
    let a = listed_legal p m hm in
    let b = listed_legal p n hn in
    same_ok m n (san_reading p (san p m)) (san_reading p (san p n)) (read_back p m a.0 a.1) (read_back p n b.0 b.1) (ap (san_reading p) same)

-- how long the parts of a text are
file_short : (o : Option ℕ) → length (file_letter o) ≤ 1
file_short None = omega arith
file_short (Some file) = omega arith

rank_short : (o : Option ℕ) → length (rank_digit o) ≤ 1
rank_short None = omega arith
rank_short (Some rank) = omega arith

taken_short : (taken : Bool) → length (capture_text taken) ≤ 1
taken_short true = omega arith
taken_short false = omega arith

becoming_short : (promo : Option Kind) → length (becoming_text promo) ≤ 2
becoming_short None = omega arith
becoming_short (Some into) = omega arith

pawn_short : (taken : Bool) (m : MoveParts) → length (pawn_text taken m) ≤ 6
unfolding pawn_text
pawn_short taken m =
    let origin : List ℕ = file_letter (if taken then Some (file_of m.from) else None) in
    omega (
      arith,
      length-append origin (capture_text taken ++ (square_text m.to ++ becoming_text m.promo)),
      length-append (capture_text taken) (square_text m.to ++ becoming_text m.promo),
      length-append (square_text m.to) (becoming_text m.promo),
      file_short (if taken then Some (file_of m.from) else None),
      taken_short taken,
      becoming_short m.promo,
    )

piece_short : (sort : Kind) (origin : Origin) (taken : Bool) (to : ℕ) → length (piece_text sort origin taken to) ≤ 6
unfolding piece_text
piece_short sort origin taken to =
    omega (
      arith,
      length-append (file_letter origin.file) (rank_digit origin.rank ++ (capture_text taken ++ square_text to)),
      length-append (rank_digit origin.rank) (capture_text taken ++ square_text to),
      length-append (capture_text taken) (square_text to),
      file_short origin.file,
      rank_short origin.rank,
      taken_short taken,
    )

step_short : (p : PositionParts) (kind : Kind) (man : Man) (m : MoveParts) → length (step_text p kind man m) ≤ 6
step_short p Pawn man m = pawn_short (captures p man m) m
step_short p kind man m = piece_short kind (origin_of p kind m) (captures p man m) m.to

by_castling : (a b : Bool) (text : List ℕ) → length text ≤ 6 → length (if a then codes "O-O" else (if b then codes "O-O-O" else text)) ≤ 6
by_castling true b text h = omega arith
by_castling false true text h = omega arith
by_castling false false text h = h

bare_short : (p : PositionParts) (there : Option Man) (m : MoveParts) → length (bare_text p there m) ≤ 6
bare_short p None m = omega arith
bare_short p (Some man) m =
    by_castling (is_castling man KingSide m) (is_castling man QueenSide m) (step_text p man.kind man m) (step_short p man.kind man m)

mark_short : (check none : Bool) → length (if check then (if none then codes "#" else codes "+") else []) ≤ 1
mark_short true true = omega arith
mark_short true false = omega arith
mark_short false none = omega arith

pub texts_are_short : (p : PositionParts) (m : MoveParts) → length (san p m) ≤ 7
unfolding san mark_text
texts_are_short p m =
    let q : PositionParts = after p m in
    omega (
      arith,
      length-append (bare_text p (man_on p m.from) m) (mark_text (after p m)),
      bare_short p (man_on p m.from) m,
      mark_short (in_check (man_on q) q.side) (is_without (legal_moves q)),
    )

-- Where the moves go that a form names, and what they become.
use Rattle.std.proofs.Common.{◌≡◌, ℕ, true, false, List, [], ◌∷◌, filter, Option, Some, None, Result, Ok, Err, sym, ap, ◌∙◌, arith}
use Rattle.std.specs.Result.{IfOk}
use Rattle.std.specs.List.{Contains}
use Rattle.std.proofs.lemmas.List.Elements.{All-filter, All-contains}
use Rattle.std.proofs.lemmas.Bool.{and_parts, eqb-true}
use Rattle.chess_types.specs.declared.board.man.Kind.{Kind}
use Rattle.chess_types.specs.declared.board.position.Wing.{Wing}
use Rattle.chess_types.specs.board.Men.{is_pawn}
use Rattle.chess_types.specs.board.MoveParts.{MoveParts}
use Rattle.chess_types.specs.board.Position.{PositionParts}
use Rattle.chess_types.specs.board.Pseudo.{reached}
use Rattle.chess_types.specs.board.Legal.{is_legal, legal_moves}
use Rattle.chess_moves.proofs.LegalLaws.{moves_legal}
use Rattle.chess_san.specs.declared.fault.SanFault.{SanFault}
use Rattle.chess_san.specs.Forms.{form_in}
use Rattle.chess_san.specs.declared.form.Course.{Course}
use Rattle.chess_san.specs.declared.form.Form.{Form}
use Rattle.chess_san.specs.declared.form.Form.TheVariants.{Castles, Piece, Plain}
use Rattle.chess_san.specs.Naming.{names, is_kind, the_one, reading_by, san_reading}
use Rattle.chess_san.specs.Writing.{is_rival}
use Rattle.chess_san.proofs.SameLemmas.{mover, plain_promo, kind_is, castled, followed}

pub castles_goes : (p : PositionParts) (wing : Wing) (m : MoveParts) → names p (Castles wing) m ≡ true → is_legal p m ≡ true → (m.to ≡ reached p.side wing) × (m.promo ≡ None)
unfolding names
castles_goes p wing m h legal = let c = castled p wing m (mover p m legal) h in (c.to, c.promo)

pub piece_goes : (p : PositionParts) (kind : Kind) (course : Course) (m : MoveParts) → names p (Piece kind course) m ≡ true → is_legal p m ≡ true → (m.to ≡ course.to) × (m.promo ≡ course.promo)
unfolding names
piece_goes p k course m h legal = let f = followed course m (and_parts _ _ (and_parts _ _ h).0).0 in (f.to, f.promo)

pub plain_goes : (p : PositionParts) (course : Course) (m : MoveParts) → names p (Plain course) m ≡ true → is_legal p m ≡ true → (m.to ≡ course.to) × (m.promo ≡ course.promo)
unfolding names
plain_goes p course m h legal = let f = followed course m (and_parts _ _ h).0 in (f.to, f.promo)

pub rival_goes : (p : PositionParts) (kind : Kind) (from to : ℕ) (n : MoveParts) → is_pawn kind ≡ false → is_rival p kind from to n ≡ true → is_legal p n ≡ true → (n.to ≡ to) × (n.promo ≡ None)
rival_goes p kind from to n plain h legal =
    let q = and_parts _ _ h in
    let a = mover p n legal in
    let there : is_kind kind (Some a.man) ≡ true = ap (is_kind kind) (sym a.here) ∙ q.1 in
    let same : a.man.kind ≡ kind = kind_is a.man.kind kind there in
    (eqb-true _ _ (and_parts _ _ q.0).0, plain_promo p a.man.kind n (ap is_pawn same ∙ plain) a.moves)

one_in : (xs : List MoveParts) (m : MoveParts) → the_one xs ≡ Ok m → Contains xs m
one_in [] m h = cc
one_in (x ∷ []) m h = let e : x ≡ m = cc in (0, omega arith, e)
one_in (x ∷ y ∷ rest) m h = cc

one_legal : (p : PositionParts) (f : Option Form) (m : MoveParts) → reading_by p f ≡ Ok m → is_legal p m ≡ true
one_legal p None m h = cc
one_legal p (Some form) m h =
    All-contains (λ (x : MoveParts). is_legal p x ≡ true) (filter (names p form) (legal_moves p)) m
    (All-filter (names p form) (λ (x : MoveParts). is_legal p x ≡ true) (legal_moves p) (moves_legal p)) (one_in (filter (names p form) (legal_moves p)) m h)

-- what is read is legal
pub read_legal : (p : PositionParts) (text : List ℕ) (r : Result MoveParts SanFault) → r ≡ san_reading p text → IfOk r (λ m. is_legal p m ≡ true)
unfolding san_reading
read_legal p text (Ok m) h = one_legal p (form_in text) m (sym h)
read_legal p text (Err e) h = tt

-- What is written of a legal move names that move alone.
use Rattle.std.proofs.Common.{◌≡◌, ℕ, ◌<◌, Bool, true, false, List, [], ◌∷◌, get_or, Option, Some, None, Ok, refl, sym, ap, subst, ◌∙◌, arith}
use Rattle.std.specs.Option.{IfSome}
use Rattle.std.proofs.lemmas.Bool.{and_parts, and_from, or_from, not_from_false, eq-eqb, cond_both}
use Rattle.std.proofs.lemmas.List.Elements.{Contains-get_or}
use Rattle.chess_types.specs.declared.board.man.Kind.{Kind}
use Rattle.chess_types.specs.declared.board.man.Kind.TheVariants.{Pawn, Knight, Bishop, Rook, Queen, King}
use Rattle.chess_types.specs.declared.board.man.Man.{Man}
use Rattle.chess_types.specs.declared.board.position.Wing.{Wing}
use Rattle.chess_types.specs.declared.board.position.Wing.TheVariants.{KingSide, QueenSide}
use Rattle.chess_types.proofs.MoveLemmas.{legal_pseudo}
use Rattle.chess_types.specs.board.Squares.{file_of, rank_of}
use Rattle.chess_types.specs.board.Men.{is_pawn, kind_number}
use Rattle.chess_types.specs.board.Attack.{in_check}
use Rattle.chess_types.specs.board.MoveParts.{MoveParts}
use Rattle.chess_types.specs.board.Position.{PositionParts, man_on}
use Rattle.chess_types.specs.board.Pseudo.{moves_as}
use Rattle.chess_types.specs.board.After.{after, is_castling}
use Rattle.chess_types.specs.board.Legal.{is_legal, legal_moves}
use Rattle.chess_types.specs.board.Outcome.{is_without}
use Rattle.chess_types.proofs.AllMoves.{IsMove}
use Rattle.chess_moves.proofs.Candidates.{pseudo_names}
use Rattle.chess_moves.proofs.LegalLaws.{legal_listed, listed_legal}
use Rattle.chess_moves.proofs.Order.{moves_apart}
use Rattle.chess_san.specs.declared.form.Origin.{Origin}
use Rattle.chess_san.specs.declared.form.Form.{Form}
use Rattle.chess_san.specs.declared.form.Form.TheVariants.{Castles, Piece, Plain}
use Rattle.chess_san.specs.Forms.{wing_in, bare_form, form_in}
use Rattle.chess_san.specs.Naming.{is_kind, castles_by, is_castles, fits, names, named_by, named, the_one, reading_by, san_reading}
use Rattle.chess_san.specs.Writing.{captures, share_file, share_rank, origin_by, origin_among, rivals, origin_of, piece_text, pawn_text, step_text, bare_text, mark_text, san}
use Rattle.chess_san.proofs.OnlyLemmas.{only_one}
use Rattle.chess_san.proofs.EndLemmas.{Unmarked, mark_dropped}
use Rattle.chess_san.proofs.ReadLemmas.{step_course, piece_read, pawn_course, pawn_read, piece_plain, pawn_plain}
use Rattle.chess_san.proofs.SameLemmas.{same_move, Mover, mover, plain_promo, castled_same, followed, follows_own, piece_from}
use Rattle.chess_san.proofs.PawnLemmas.{pawn_names, pawn_same}

-- The text reads as a form, which names the move and no other; no mark ends it.
record IsUnambiguous (p : PositionParts) (m : MoveParts) (text : List ℕ) : Type 0 where
  form : Form
  reads : bare_form text ≡ Some form
  ends : Unmarked text
  own : names p form m ≡ true
  only : (n : MoveParts) → IsMove n → is_legal p n ≡ true → names p form n ≡ true → n ≡ m

-- the origin that is written is on the board, and the move's own
record IsOwn (origin : Origin) (from : ℕ) : Type 0 where
  file : IfSome origin.file (λ f. f < 8)
  rank : IfSome origin.rank (λ r. r < 8)
  fits_file : fits origin.file (file_of from) ≡ true
  fits_rank : fits origin.rank (rank_of from) ≡ true

own_by : (none file rank : Bool) (from : ℕ) → from < 64 → IsOwn (origin_by none file rank from) from
own_by true file rank from on = record { file = tt; rank = tt; fits_file = refl; fits_rank = refl }
own_by false false rank from on = record { file = omega arith; rank = tt; fits_file = eq-eqb _ _ refl; fits_rank = refl }
own_by false true false from on = record { file = tt; rank = omega arith; fits_file = refl; fits_rank = eq-eqb _ _ refl }
own_by false true true from on = record { file = omega arith; rank = omega arith; fits_file = eq-eqb _ _ refl; fits_rank = eq-eqb _ _ refl }

own_origin : (others : List MoveParts) (from : ℕ) → from < 64 → IsOwn (origin_among others from) from
unfolding origin_among
own_origin others from on = own_by (is_without others) (share_file others from) (share_rank others from) from on

module _ (p : PositionParts) (m : MoveParts) (on : IsMove m) (legal : is_legal p m ≡ true) (a : Mover p m) where
  castling_told : (wing : Wing) (text : List ℕ) → bare_form text ≡ Some (Castles wing) → Unmarked text → is_castling a.man wing m ≡ true → IsUnambiguous p m text
  unfolding names
  castling_told wing text reads ends h =
      let own : castles_by (man_on p m.from) wing m ≡ true = ap (λ (o : Option Man). castles_by o wing m) a.here ∙ h in
      record {
        form = Castles wing;
        reads = reads;
        ends = ends;
        own = own;
        only = λ n on' legal' h'. castled_same p wing m n a (mover p n legal') own h';
      }

  pawn_told : a.man.kind ≡ Pawn → IsUnambiguous p m (pawn_text (captures p a.man m) m)
  unfolding names
  pawn_told is =
      let taken : Bool = captures p a.man m in
      record {
        form = Plain (pawn_course taken m);
        reads = pawn_read taken m on.to (pseudo_names p m (legal_pseudo p m legal));
        ends = pawn_plain taken m;
        own = pawn_names p m a is taken refl;
        only = λ n on' legal' h. pawn_same p m n a (mover p n legal') is taken refl h;
      }

  piece_told : (kind : Kind) → is_pawn kind ≡ false → a.man.kind ≡ kind → is_castling a.man KingSide m ≡ false → is_castling a.man QueenSide m ≡ false →
      IsUnambiguous p m (piece_text kind (origin_of p kind m) (captures p a.man m) m.to)
  unfolding names
  piece_told kind plain is king queen =
      let origin : Origin = origin_of p kind m in
      let told : IsOwn origin m.from = own_origin (rivals p kind m.from m.to) m.from on.from in
      let promo : m.promo ≡ None = plain_promo p kind m plain (ap (λ (k : Kind). moves_as p k m) (sym is) ∙ a.moves) in
      let course = follows_own (step_course origin m.to) m refl told.fits_file told.fits_rank promo in
      let there : is_kind kind (man_on p m.from) ≡ true = ap (is_kind kind) a.here ∙ eq-eqb _ _ (ap kind_number is) in
      let castles : is_castles (man_on p m.from) m ≡ false = ap (λ (o : Option Man). is_castles o m) a.here ∙ or_from _ _ king queen in
      record {
        form = Piece kind (step_course origin m.to);
        reads = piece_read origin (captures p a.man m) m.to told.file told.rank on.to kind plain;
        ends = piece_plain kind origin (captures p a.man m) m.to;
        own = and_from _ _ (and_from _ _ course there) (not_from_false _ castles);
        only = λ n on' legal' h.
            let q = and_parts _ _ h in
            let r = and_parts _ _ q.0 in
            let f = followed (step_course origin m.to) n r.0 in
            same_move n m (piece_from p kind m n on' legal' f.to r.1 f.file f.rank) f.to (f.promo ∙ sym promo);
      }

  step_told : (kind : Kind) → a.man.kind ≡ kind → is_castling a.man KingSide m ≡ false → is_castling a.man QueenSide m ≡ false → IsUnambiguous p m (step_text p kind a.man m)
  step_told Pawn is king queen = pawn_told is
  step_told Knight is king queen = piece_told Knight refl is king queen
  step_told Bishop is king queen = piece_told Bishop refl is king queen
  step_told Rook is king queen = piece_told Rook refl is king queen
  step_told Queen is king queen = piece_told Queen refl is king queen
  step_told King is king queen = piece_told King refl is king queen

  man_told : IsUnambiguous p m (bare_text p (Some a.man) m)
  unfolding wing_in
  man_told =
      cond_both (is_castling a.man KingSide m) _ _ (IsUnambiguous p m) (castling_told KingSide (79 ∷ 45 ∷ 79 ∷ []) refl refl)
      (λ king. cond_both (is_castling a.man QueenSide m) _ _ (IsUnambiguous p m) (castling_told QueenSide (79 ∷ 45 ∷ 79 ∷ 45 ∷ 79 ∷ []) refl refl) (λ queen. step_told a.man.kind refl king queen))

  told : IsUnambiguous p m (bare_text p (man_on p m.from) m)
  told = subst (λ (o : Option Man). IsUnambiguous p m (bare_text p o m)) (sym a.here) man_told

-- the law
pub named_back : (p : PositionParts) (m : MoveParts) → IsMove m → is_legal p m ≡ true → named p (san p m) ≡ m ∷ []
unfolding named form_in san mark_text
named_back p m on legal =
    let t = told p m on legal (mover p m legal) in
    let q : PositionParts = after p m in
    let listed = legal_listed p m on legal in
    ap (λ (text : List ℕ). named_by p (bare_form text)) (mark_dropped (bare_text p (man_on p m.from) m) t.ends (in_check (man_on q) q.side) (is_without (legal_moves q)))
    ∙ ap (named_by p) t.reads
    ∙ only_one (names p t.form) m (legal_moves p) (moves_apart p)
    (λ k d within passes.
    let at = listed_legal p (get_or (legal_moves p) k d) (Contains-get_or (legal_moves p) k d within) in
    t.only (get_or (legal_moves p) k d) at.0 at.1 passes)
    listed.0 listed.1 listed.2 t.own

one_read : (p : PositionParts) (f : Option Form) (m : MoveParts) → named_by p f ≡ m ∷ [] → reading_by p f ≡ Ok m
one_read p None m h = cc
one_read p (Some form) m h = ap the_one h

-- and is read as it
pub read_back : (p : PositionParts) (m : MoveParts) → IsMove m → is_legal p m ≡ true → san_reading p (san p m) ≡ Ok m
unfolding named san_reading
read_back p m on legal = one_read p (form_in (san p m)) m (named_back p m on legal)

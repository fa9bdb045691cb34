-- A text that was read as a legal move, and that distinguishes a man from no other, is the one that is written of the move.
use Rattle.std.proofs.Common.{◌≡◌, ℕ, zero, suc, ◌<◌, ◌==◌, Bool, true, false, not, List, [], ◌∷◌, ◌++◌, length, filter, get_or, Option, Some, None, Ok, refl, sym, ap, ◌∙◌, arith, inl, inr, codes}
use Rattle.std.specs.Prelude.{if◌then◌else◌}
use Rattle.std.specs.List.{Contains}
use Rattle.std.proofs.lemmas.Bool.{and_parts, and_from, or_from, true≢false, eqb-true, eq-eqb, cases_Bool, not_from_false}
use Rattle.byte_streams.specs.Words.{without_last_gaps}
use Rattle.chess_types.specs.declared.board.man.Kind.{Kind}
use Rattle.chess_types.specs.declared.board.man.Kind.TheVariants.{Pawn}
use Rattle.chess_types.specs.declared.board.man.Man.{Man}
use Rattle.chess_types.specs.declared.board.position.Wing.{Wing}
use Rattle.chess_types.specs.declared.board.position.Wing.TheVariants.{KingSide, QueenSide}
use Rattle.chess_types.specs.declared.board.man.Colour.{Colour}
use Rattle.chess_types.specs.board.Men.{is_pawn, is_king, is_king_of, kings_of, same_colour}
use Rattle.chess_types.proofs.SameLemmas.{same_self}
use Rattle.chess_attack.proofs.Kings.{one_king}
use Rattle.chess_types.specs.board.MoveParts.{MoveParts}
use Rattle.chess_types.specs.board.Position.{IsSetup, PositionParts, man_on}
use Rattle.chess_types.specs.board.Pseudo.{moves_as}
use Rattle.chess_types.specs.board.After.{after, is_castling}
use Rattle.chess_types.specs.board.Legal.{is_legal, legal_moves}
use Rattle.chess_moves.proofs.LegalLaws.{listed_legal}
use Rattle.chess_san.specs.declared.form.Origin.{Origin}
use Rattle.chess_san.specs.declared.form.Form.{Form}
use Rattle.chess_san.specs.declared.form.Form.TheVariants.{Piece}
use Rattle.chess_san.specs.Forms.{bare_form, form_in, marks}
use Rattle.chess_san.specs.Naming.{is_castles, is_kind, names, reading_by, san_reading, the_one}
use Rattle.chess_san.specs.Writing.{bare_text, captures, is_rival, mark_text, nowhere, origin_among, origin_of, piece_text, rivals, san, step_by, text_by}
use Rattle.chess_san.proofs.ReadLemmas.{piece_read, step_course}
use Rattle.chess_san.proofs.SameLemmas.{Mover, follows_own, kind_is, mover, plain_promo}

-- a pawn's text is the same whatever distinguishes others
step_pawn : (p : PositionParts) (kind : Kind) (origin : Origin) (man : Man) (m : MoveParts) → is_pawn kind ≡ true → step_by p kind nowhere man m ≡ step_by p kind origin man m
step_pawn p Pawn origin man m h = refl
step_pawn p _ origin man m h = absurd (true≢false (sym h))

pub pawn_text_is : (p : PositionParts) (man : Man) (m : MoveParts) → is_pawn man.kind ≡ true → text_by p man nowhere m ≡ bare_text p (Some man) m
pawn_text_is p man m h =
    ap (λ (x : List ℕ). if is_castling man KingSide m then codes "O-O" else (if is_castling man QueenSide m then codes "O-O-O" else x))
    (step_pawn p man.kind (origin_of p man.kind m) man m h)

-- who has no rival is not distinguished
nobody : (from : ℕ) → origin_among [] from ≡ nowhere
unfolding origin_among
nobody from = refl

alone_text_is : (p : PositionParts) (man : Man) (m : MoveParts) → rivals p man.kind m.from m.to ≡ [] → text_by p man nowhere m ≡ bare_text p (Some man) m
alone_text_is p man m none = ap (λ (o : Origin). text_by p man o m) (sym (ap (λ (r : List MoveParts). origin_among r m.from) none ∙ nobody m.from))

plain_piece : (p : PositionParts) (kind : Kind) (man : Man) (m : MoveParts) → is_pawn kind ≡ false → step_by p kind nowhere man m ≡ piece_text kind nowhere (captures p man m) m.to
plain_piece p Pawn man m h = absurd (true≢false h)
plain_piece p _ man m h = refl

-- ---- no rival

the_one_is : (xs : List MoveParts) (m : MoveParts) → the_one xs ≡ Ok m → xs ≡ m ∷ []
the_one_is [] m e = absurd cc
the_one_is (x ∷ []) m e = cc
the_one_is (x ∷ y ∷ rest) m e = absurd cc

passing : (test : MoveParts → Bool) (ms : List MoveParts) (n : MoveParts) (k : ℕ) → k < length ms → get_or ms k n ≡ n → test n ≡ true → Contains (filter test ms) n
passing test [] n k within is h = absurd (omega arith)
passing test (x ∷ ms) n zero within is h = let here : test x ≡ true = ap test is ∙ h in rw here (0, omega arith, is)
passing test (x ∷ ms) n (suc k) within is h =
    let c = passing test ms n k (omega arith) is h in
    elim (cases_Bool (test x)) [
      | inl kept ↦ rw kept (suc c.0, omega (arith, c.1), c.2)
      | inr out ↦ rw out c
    ]

in_one : (m n : MoveParts) (k : ℕ) → k < 1 → get_or (m ∷ []) k n ≡ n → m ≡ n
in_one m n zero within is = is
in_one m n (suc k) within is = absurd (omega arith)

filter_none : (test : MoveParts → Bool) (ms : List MoveParts) → ((n : MoveParts) → Contains ms n → test n ≡ true → ⊥) → filter test ms ≡ []
filter_none test [] h = refl
filter_none test (x ∷ ms) h =
    elim (cases_Bool (test x)) [
      | inl kept ↦ absurd (h x (0, omega arith, refl) kept)
      | inr out ↦ rw out (filter_none test ms (λ n c. h n (suc c.0, omega (arith, c.1), c.2)))
    ]

no_castling : (man : Man) (wing : Wing) (m : MoveParts) → is_king man.kind ≡ false → is_castling man wing m ≡ false
no_castling man wing m h = rw h refl

module _ (p : PositionParts) (kind : Kind) (m : MoveParts) (pawn : is_pawn kind ≡ false) (king : is_king kind ≡ false) where
  form : Form
  form = Piece kind (step_course nowhere m.to)

  rival_named : (n : MoveParts) → is_legal p n ≡ true → is_rival p kind m.from m.to n ≡ true → names p form n ≡ true
  unfolding names form
  rival_named n legal h =
      let q = and_parts _ _ h in
      let r = and_parts _ _ q.0 in
      let a = mover p n legal in
      let is : a.man.kind ≡ kind = kind_is a.man.kind kind (sym (ap (is_kind kind) a.here) ∙ q.1) in
      let promo : n.promo ≡ None = plain_promo p kind n pawn (ap (λ (k : Kind). moves_as p k n) (sym is) ∙ a.moves) in
      let no : is_king a.man.kind ≡ false = ap is_king is ∙ king in
      let castles : is_castles (man_on p n.from) n ≡ false = ap (λ (o : Option Man). is_castles o n) a.here ∙ or_from _ _ (no_castling a.man KingSide n no) (no_castling a.man QueenSide n no) in
      and_from _ _ (and_from _ _ (follows_own (step_course nowhere m.to) n (eqb-true _ _ r.0) refl refl promo) q.1) (not_from_false _ castles)

  no_rivals : reading_by p (Some form) ≡ Ok m → rivals p kind m.from m.to ≡ []
  unfolding rivals
  no_rivals e =
      let one : filter (names p form) (legal_moves p) ≡ m ∷ [] = the_one_is _ m e in
      filter_none (is_rival p kind m.from m.to) (legal_moves p) (λ n c h.
      let at = listed_legal p n c in
      let named : Contains (filter (names p form) (legal_moves p)) n = passing (names p form) (legal_moves p) n c.0 c.1 c.2 (rival_named n at.1 h) in
      let only : Contains (m ∷ []) n = rw one at named in
      let same : m ≡ n = in_one m n only.0 only.1 only.2 in
      let other : not (n.from == m.from) ≡ true = (and_parts _ _ (and_parts _ _ h).0).1 in
      true≢false (sym (ap not (sym (eq-eqb n.from m.from (ap (λ (x : MoveParts). x.from) (sym same)))) ∙ other)))

-- a king has none: his side has no other
king_here : (p : PositionParts) (m : MoveParts) (a : Mover p m) → is_king a.man.kind ≡ true → is_king_of p.side (man_on p m.from) ≡ true
king_here p m a h = ap (is_king_of p.side) a.here ∙ and_from _ _ (ap (λ (c : Colour). same_colour c p.side) a.mine ∙ same_self p.side) h

king_alone : (p : PositionParts) (m : MoveParts) (kind : Kind) → kings_of p.placement p.side ≡ 1 → m.from < 64 → is_king kind ≡ true → is_king_of p.side (man_on p m.from) ≡ true → rivals p kind m.from m.to ≡ []
unfolding rivals
king_alone p m kind one on king here =
    filter_none (is_rival p kind m.from m.to) (legal_moves p) (λ n c h.
    let at = listed_legal p n c in
    let q = and_parts _ _ h in
    let a = mover p n at.1 in
    let is : a.man.kind ≡ kind = kind_is a.man.kind kind (sym (ap (is_kind kind) a.here) ∙ q.1) in
    let same : n.from ≡ m.from = one_king p.placement p.side n.from m.from one at.0.from on (king_here p n a (ap is_king is ∙ king)) here in
    let other : not (n.from == m.from) ≡ true = (and_parts _ _ q.0).1 in
    true≢false (sym (ap not (sym (eq-eqb n.from m.from same)) ∙ other)))

-- ---- the text

whole : (p : PositionParts) (m : MoveParts) (man : Man) (text : List ℕ) → man_on p m.from ≡ Some man → text ≡ text_by p man nowhere m → text_by p man nowhere m ≡ bare_text p (Some man) m
    → text ++ mark_text (after p m) ≡ san p m
unfolding san
whole p m man text here is same = ap (λ (x : List ℕ). x ++ mark_text (after p m)) (is ∙ same ∙ sym (ap (λ (o : Option Man). bare_text p o m) here))

pub pawn_whole : (p : PositionParts) (m : MoveParts) (man : Man) (text : List ℕ) → man_on p m.from ≡ Some man → text ≡ text_by p man nowhere m → is_pawn man.kind ≡ true
    → text ++ mark_text (after p m) ≡ san p m
pawn_whole p m man text here is h = whole p m man text here is (pawn_text_is p man m h)

pub king_whole : (p : PositionParts) (m : MoveParts) (man : Man) (text : List ℕ) → man_on p m.from ≡ Some man → text ≡ text_by p man nowhere m → is_king man.kind ≡ true
    → IsSetup p → m.from < 64 → is_legal p m ≡ true → text ++ mark_text (after p m) ≡ san p m
king_whole p m man text here is king setup on legal =
    let a = mover p m legal in
    let same : a.man ≡ man = some_man a.man man (sym a.here ∙ here) in
    let at : is_king_of p.side (man_on p m.from) ≡ true = king_here p m a (ap (λ (x : Man). is_king x.kind) same ∙ king) in
    whole p m man text here is (alone_text_is p man m (king_alone p m man.kind (setup.kings p.side) on king at))
  where
    some_man : (x y : Man) → Some x ≡ Some y → x ≡ y
    some_man x y e = cc

not_castled : (p : PositionParts) (man : Man) (m : MoveParts) → is_king man.kind ≡ false → text_by p man nowhere m ≡ step_by p man.kind nowhere man m
not_castled p man m h = rw (no_castling man KingSide m h, no_castling man QueenSide m h) refl

pub piece_whole : (p : PositionParts) (m : MoveParts) (man : Man) (text read : List ℕ) → man_on p m.from ≡ Some man → text ≡ text_by p man nowhere m → is_pawn man.kind ≡ false → is_king man.kind ≡ false
    → m.to < 64 → san_reading p read ≡ Ok m → without_last_gaps marks read ≡ text → text ++ mark_text (after p m) ≡ san p m
unfolding san_reading form_in form
piece_whole p m man text read here is pawn king on reads bare =
    let same : without_last_gaps marks read ≡ piece_text man.kind nowhere (captures p man m) m.to =
    bare ∙ is ∙ not_castled p man m king ∙ plain_piece p man.kind man m pawn in
    let formed : bare_form (without_last_gaps marks read) ≡ Some (form p man.kind m pawn king) =
    ap bare_form same ∙ piece_read nowhere (captures p man m) m.to tt tt on man.kind pawn in
    let none = no_rivals p man.kind m pawn king (sym (ap (reading_by p) formed) ∙ reads) in
    whole p m man text here is (alone_text_is p man m none)

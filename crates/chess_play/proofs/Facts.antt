-- What a pseudo-legal move in a well-formed setup does, whatever man makes it.
use Rattle.std.proofs.Common.{◌≡◌, ◌≢◌, ℕ, ◌+◌, ◌*◌, ◌<◌, true, false, ◌&&◌, ◌||◌, Some, is_none, refl, sym, ap, subst, ◌∙◌, arith, inl, inr}
use Rattle.std.proofs.lemmas.Bool.{and_parts, or_cases, true≢false, eqb-true, not-true, eq-eqb}
use Rattle.std.proofs.lemmas.Bool.Decides.{nat_tests}
use Rattle.chess_types.specs.declared.board.man.Colour.{Colour}
use Rattle.chess_types.specs.declared.board.man.Colour.TheVariants.{White, Black}
use Rattle.chess_types.specs.declared.board.man.Kind.{Kind}
use Rattle.chess_types.specs.declared.board.man.Kind.TheVariants.{Pawn, Knight, Bishop, Rook, Queen, King}
use Rattle.chess_types.specs.declared.board.man.Man.{Man}
use Rattle.chess_types.specs.declared.board.position.Wing.{Wing}
use Rattle.chess_types.specs.declared.board.position.Wing.TheVariants.{KingSide, QueenSide}
use Rattle.chess_types.specs.board.Board.{Men}
use Rattle.chess_types.specs.board.Squares.{file_of, rank_of}
use Rattle.chess_types.specs.board.MoveParts.{MoveParts}
use Rattle.chess_types.specs.board.Men.{is_king, is_pawn}
use Rattle.chess_types.specs.board.Attack.{leaps, slides, slides_to, attacks_as}
use Rattle.chess_types.specs.board.Position.{PositionParts, IsSetup, man_on, king_home}
use Rattle.chess_types.specs.board.Pseudo.{may_enter, reached, castles, moves_as_it_attacks, moves_as, is_pseudo}
use Rattle.chess_types.specs.board.After.{is_en_passant, moved_man, is_castling, is_advance}
use Rattle.chess_types.proofs.SameLemmas.{same_is}
use Rattle.chess_types.proofs.MoveLemmas.{leaps_self}
use Rattle.chess_play.specs.steps.Undo.{mover}
use Rattle.chess_play.proofs.Pawns.{target_is, Two, pawn_moves, Further, further, further_apart, pawn_enters, Passed, passes, advances}
use Rattle.chess_play.proofs.Promotions.{stays, mover_pawn, mover_plain, pawn_king, pawn_stays, two_plain}
use Rattle.chess_play.proofs.CastlingSquares.{apart, same_wing, castles_where, castling_parts, reached_free}

slides_self : (k : Kind) (a : ℕ) → slides_to k a a ≡ false
unfolding slides_to
slides_self k a = rw (eq-eqb a a refl) refl

attacks_self : (man : Man) (men : Men) (a : ℕ) → attacks_as man men a a ≡ false
unfolding attacks_as
attacks_self man men a = rw (leaps_self man.colour man.kind a, slides_self man.kind a) refl

-- no man attacks the square on which it stands
pub attacks_apart : (man : Man) (men : Men) (a b : ℕ) → attacks_as man men a b ≡ true → a ≢ b
attacks_apart man men a b h = λ e. true≢false (sym h ∙ ap (attacks_as man men a) (sym e) ∙ attacks_self man men a)

-- The facts of a pseudo-legal move:
--   here       the man stands on the first square
--   mine       it is of the side to move
--   apart      it leaves that square
--   enter      the square that it comes to is empty, or holds a man that may be captured
--   king       what arrives is a king exactly if the mover is
--   pawn       what arrives is no pawn on rank 1 or 8
--   passing    en passant, the captured pawn stands beside the mover
--   advance    an advance of two squares begins where the pawns began, over an empty square
--   plain      and is made by a pawn that stays one
--   onward     a pawn goes further on
--   same       another man stays what it is
--   mover      the mover is known by what arrives and the promotion
--   castling   a king that goes where castling takes it castles
pub record Facts (p : PositionParts) (man : Man) (m : MoveParts) : Type 0 where
  pub here : man_on p m.from ≡ Some man
  pub mine : man.colour ≡ p.side
  pub apart : m.from ≢ m.to
  pub enter : may_enter p.side (man_on p m.to) ≡ true
  pub king : is_king (moved_man man m.promo).kind ≡ is_king man.kind
  pub pawn : is_pawn (moved_man man m.promo).kind ≡ true → (0 < rank_of m.to) × (rank_of m.to < 7)
  pub passing : is_en_passant p.target man m ≡ true → Passed p.side (man_on p) m.from m.to (8 * rank_of m.from + file_of m.to)
  pub advance : is_advance man m ≡ true → Two p.side (man_on p) m.from m.to
  pub plain : is_advance man m ≡ true → moved_man man m.promo ≡ record { colour = p.side; kind = Pawn }
  pub onward : is_pawn man.kind ≡ true → Further p.side m.from m.to
  pub same : is_pawn man.kind ≡ false → moved_man man m.promo ≡ man
  pub mover : mover m.promo (moved_man man m.promo) ≡ man
  pub castling : (w : Wing) → is_castling man w m ≡ true → castles p w m ≡ true

-- the man of the side to move
abbrev mine : PositionParts → Kind → Man
mine p kind = record { colour = p.side; kind = kind }

-- a test that holds and fails proves anything
abbrev pub never : {A : Type 0} → false ≡ true → A
never h = absurd (true≢false (sym h))

-- no king's ordinary move goes as far as castling
home_leap : (c : Colour) (w : Wing) → leaps c King (king_home c) (reached c w) ≡ false
unfolding leaps
home_leap White KingSide = refl
home_leap White QueenSide = refl
home_leap Black KingSide = refl
home_leap Black QueenSide = refl

king_slides : (c : Colour) (men : Men) (a b : ℕ) → attacks_as (record { colour = c; kind = King }) men a b ≡ leaps c King a b
unfolding attacks_as slides_to slides
king_slides c men a b = grind (arith, nat_tests)

module _ (p : PositionParts) (m : MoveParts) (setup : IsSetup p) (from : m.from < 64) (to : m.to < 64) where
  abbrev Does : Kind → Type 0
  Does kind = man_on p m.from ≡ Some (mine p kind) → moves_as p kind m ≡ true → Facts p (mine p kind) m

  -- knight, bishop, rook and queen
  piece : (kind : Kind) → is_king kind ≡ false → is_pawn kind ≡ false → man_on p m.from ≡ Some (mine p kind) →
      (moves_as_it_attacks p kind m && is_none m.promo) ≡ true → Facts p (mine p kind) m
  piece kind not_king not_pawn here h =
      let a = and_parts _ _ h in
      let b = and_parts _ _ a.0 in
      let same : moved_man (mine p kind) m.promo ≡ mine p kind = stays (mine p kind) m.promo a.1 in
      record {
        here = here;
        mine = refl;
        apart = attacks_apart (mine p kind) (man_on p) m.from m.to b.0;
        enter = b.1;
        king = ap (λ x. is_king x.kind) same;
        pawn = λ e. never (sym not_pawn ∙ ap (λ x. is_pawn x.kind) (sym same) ∙ e);
        passing = λ e. never (rw not_pawn at e);
        advance = λ e. never (rw not_pawn at e);
        plain = λ e. never (rw not_pawn at e);
        castling = λ w e. never (rw not_king at e);
        onward = λ e. never (sym not_pawn ∙ e);
        same = λ e. same;
        mover = mover_plain (mine p kind) m.promo a.1;
      }

  pawn : Does Pawn
  unfolding moves_as
  pawn here h =
      let a = and_parts _ _ h in
      let moves = pawn_moves p.side (man_on p) p.target m a.0 in
      let on = further p.side (man_on p) p.target m.from m.to moves in
      let far : is_advance (mine p Pawn) m ≡ true → Two p.side (man_on p) m.from m.to =
      λ e. advances p.side (man_on p) p.target m.from m.to moves (elim (or_cases _ _ e) [ inl x ↦ inl (eqb-true _ _ x) | inr x ↦ inr (eqb-true _ _ x) ]) in
      let inner : (0 < rank_of m.from) × (rank_of m.from < 7) = setup.pawns m.from from (rw here refl) in
      record {
        here = here;
        mine = refl;
        apart = further_apart p.side m.from m.to on;
        enter = pawn_enters p.side (man_on p) p.target setup.target m.from m.to moves;
        king = pawn_king p.side m a.1;
        pawn = pawn_stays p.side m to inner on a.1;
        passing = λ e.
            let b = and_parts _ _ e in
            let t : p.target ≡ Some m.to = target_is p.target m.to b.0 in
            passes p.side (man_on p) p.target m.from m.to to moves (setup.target m.to t) (λ f. true≢false (sym (eq-eqb _ _ f) ∙ not-true _ b.1));
        advance = far;
        plain = λ e. rw (two_plain p.side (man_on p) m (far e) a.1) refl;
        castling = λ w e. never e;
        onward = λ e. on;
        same = λ e. never (sym e);
        mover = mover_pawn p.side m.promo;
      }

  -- a king that leaves his square for one that he may enter
  goes : man_on p m.from ≡ Some (mine p King) → is_none m.promo ≡ true → m.from ≢ m.to → may_enter p.side (man_on p m.to) ≡ true →
      ((w : Wing) → is_castling (mine p King) w m ≡ true → castles p w m ≡ true) → Facts p (mine p King) m
  goes here plain leaves enter castling =
      let same : moved_man (mine p King) m.promo ≡ mine p King = stays (mine p King) m.promo plain in
      record {
        here = here;
        mine = refl;
        apart = leaves;
        enter = enter;
        king = ap (λ x. is_king x.kind) same;
        pawn = λ e. never (ap (λ x. is_pawn x.kind) (sym same) ∙ e);
        passing = λ e. never e;
        advance = λ e. never e;
        plain = λ e. never e;
        onward = λ e. never e;
        same = λ e. same;
        mover = mover_plain (mine p King) m.promo plain;
        castling = castling;
      }

  castled : (w : Wing) → man_on p m.from ≡ Some (mine p King) → castles p w m ≡ true → is_none m.promo ≡ true → Facts p (mine p King) m
  castled w here h plain =
      let c = castling_parts p w m h in
      goes here plain (λ e. (apart p.side w).king_reached (sym c.from ∙ e ∙ c.to)) (rw (c.to, reached_free p w m c) refl) (λ v e.
      let v_is = castles_where p.side v m e in
      let wings : w ≡ v = same_wing p.side w v (sym c.to ∙ v_is.1) in
      subst (λ x. castles p x m ≡ true) wings h)

  walked : man_on p m.from ≡ Some (mine p King) → moves_as_it_attacks p King m ≡ true → is_none m.promo ≡ true → Facts p (mine p King) m
  walked here h plain =
      let b = and_parts _ _ h in
      goes here plain (attacks_apart (mine p King) (man_on p) m.from m.to b.0) b.1 (λ w e.
      let q = castles_where p.side w m e in
      let leap : leaps p.side King m.from m.to ≡ true = sym (king_slides p.side (man_on p) m.from m.to) ∙ b.0 in
      never (sym (home_leap p.side w) ∙ (λ i. leaps p.side King (sym q.0 i) (sym q.1 i)) ∙ leap))

  king : Does King
  unfolding moves_as
  king here h =
      let a = and_parts _ _ h in
      elim (or_cases (moves_as_it_attacks p King m || castles p KingSide m) (castles p QueenSide m) a.0) [
        | inl x ↦ elim (or_cases (moves_as_it_attacks p King m) (castles p KingSide m) x) [
          | inl y ↦ walked here y a.1
          | inr y ↦ castled KingSide here y a.1
        ]
        | inr x ↦ castled QueenSide here x a.1
      ]

  of_kind : (kind : Kind) → Does kind
  unfolding moves_as
  of_kind Pawn here h = pawn here h
  of_kind Knight here h = piece Knight refl refl here h
  of_kind Bishop here h = piece Bishop refl refl here h
  of_kind Rook here h = piece Rook refl refl here h
  of_kind Queen here h = piece Queen refl refl here h
  of_kind King here h = king here h

  -- the facts hold of a pseudo-legal move
  pub facts : (man : Man) → man_on p m.from ≡ Some man → is_pseudo p m ≡ true → Facts p man m
  facts man here h =
      let a = and_parts _ _ (rw here at h) in
      let colour : p.side ≡ man.colour = sym (same_is man.colour p.side a.0) in
      let is : mine p man.kind ≡ man = λ i. record { colour = colour i; kind = man.kind } in
      subst (λ x. Facts p x m) is (of_kind man.kind (here ∙ ap (λ x. Some x) (sym is)) a.1)

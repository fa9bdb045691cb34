-- A well-formed setup stays one after a pseudo-legal move.
use Rattle.std.proofs.Common.{◌≡◌, ◌≢◌, ℕ, ◌+◌, ◌-◌, ◌/◌, ◌<◌, ◌≤◌, true, false, not, Some, None, refl, sym, ap, subst, ◌∙◌, arith, ◌&&◌, inl, inr}
use Rattle.std.proofs.lemmas.Bool.{and_parts, or_parts, cases_Bool, cases_eq, eqb-false, not-true}
use Rattle.std.proofs.lemmas.Option.{cond_some}
use Rattle.std.specs.FinMap.{remove}
use Rattle.chess_types.specs.declared.board.man.Colour.{Colour}
use Rattle.chess_types.specs.declared.board.man.Colour.TheVariants.{White, Black}
use Rattle.chess_types.specs.declared.board.man.Kind.TheVariants.{Pawn}
use Rattle.chess_types.specs.declared.board.man.Man.{Man}
use Rattle.chess_types.specs.declared.board.position.Rights.{Rights}
use Rattle.chess_types.specs.declared.board.position.Wing.{Wing}
use Rattle.chess_types.specs.declared.board.position.Wing.TheVariants.{KingSide, QueenSide}
use Rattle.chess_types.specs.board.Board.{Board, Men, man_at}
use Rattle.chess_types.specs.board.Squares.{rank_of}
use Rattle.chess_types.specs.board.MoveParts.{MoveParts}
use Rattle.chess_types.specs.board.Men.{opponent, same_colour, is_king, is_king_of, is_of, holds_pawn, men_of, kings_of}
use Rattle.chess_types.specs.board.Position.{PositionParts, IsSetup, is_explained, man_on, king_home, rook_home, holds}
use Rattle.chess_types.proofs.TargetLemmas.{explained_from}
use Rattle.chess_types.specs.board.Pseudo.{midway, crossed, is_pseudo}
use Rattle.chess_types.specs.board.After.{captured_at, moved_man, moved_board, is_castling, with_rook, placement_after, rook_of, touches, keeps, rights_after, is_advance, number_after, after_by, after}
use Rattle.chess_types.proofs.Sums.{bit}
use Rattle.chess_types.proofs.MoveLemmas.{pseudo_man}
use Rattle.chess_types.proofs.SameLemmas.{pawn_no_king}
use Rattle.chess_play.proofs.Census.{put_here, put_there, clear_here, clear_there}
use Rattle.chess_play.proofs.Pawns.{Two}
use Rattle.chess_play.proofs.Promotions.{colour_kept}
use Rattle.chess_play.proofs.CastlingSquares.{king_edge, rook_edge, apart, elsewhere}
use Rattle.chess_play.proofs.Facts.{Facts, facts, never}
use Rattle.chess_play.proofs.Carried.{cap, carried_here, carried_from, carried_edge, carried_pawns, carried_census, carried_none}
use Rattle.chess_play.proofs.Castled.{few_carried, ready, rook_census}

-- what a right that is still held after a move says: it was held, and the move touches neither home
pub record Untouched (p : PositionParts) (c : Colour) (w : Wing) (m : MoveParts) : Type 0 where
  pub right : holds p.rights c w ≡ true
  pub from_king : king_home c ≢ m.from
  pub to_king : king_home c ≢ m.to
  pub from_rook : rook_home c w ≢ m.from
  pub to_rook : rook_home c w ≢ m.to

keeps_is : (rights : Rights) (c : Colour) (w : Wing) (m : MoveParts) → holds (rights_after rights m) c w ≡ keeps (holds rights c w) c w m
keeps_is rights White KingSide m = refl
keeps_is rights White QueenSide m = refl
keeps_is rights Black KingSide m = refl
keeps_is rights Black QueenSide m = refl

clear_of : (m : MoveParts) (q : ℕ) → not (touches m q) ≡ true → (q ≢ m.from) × (q ≢ m.to)
clear_of m q h =
    let a = or_parts _ _ (not-true _ h) in
    (λ e. eqb-false _ _ a.0 (sym e), λ e. eqb-false _ _ a.1 (sym e))

-- the right after the move, read
pub untouched : (p : PositionParts) (c : Colour) (w : Wing) (m : MoveParts) → holds (rights_after p.rights m) c w ≡ true → Untouched p c w m
untouched p c w m h =
    let a = and_parts _ _ (sym (keeps_is p.rights c w m) ∙ h) in
    let b = and_parts _ _ a.0 in
    let k = clear_of m (king_home c) b.1 in
    let r = clear_of m (rook_home c w) a.1 in
    record { right = b.0; from_king = k.0; to_king = k.1; from_rook = r.0; to_rook = r.1 }

-- what of 'well formed' speaks of the men
pub record Sound (p : PositionParts) (m : MoveParts) (board : Board) : Type 0 where
  pub kings : (c : Colour) → kings_of board c ≡ 1
  pub few : (c : Colour) → men_of board c ≤ 16
  pub pawns : (q : ℕ) → q < 64 → holds_pawn (man_at board q) ≡ true → (0 < rank_of q) × (rank_of q < 7)
  pub king_home_kept : (c : Colour) (w : Wing) → Untouched p c w m → man_at board (king_home c) ≡ man_on p (king_home c)
  pub rook_home_kept : (c : Colour) (w : Wing) → Untouched p c w m → man_at board (rook_home c w) ≡ man_on p (rook_home c w)

king_test : (c : Colour) (a b : Man) → a.colour ≡ b.colour → is_king a.kind ≡ is_king b.kind → is_king_of c (Some a) ≡ is_king_of c (Some b)
king_test c a b e f = λ i. same_colour (e i) c && f i

module _ (p : PositionParts) (man : Man) (m : MoveParts) (setup : IsSetup p) (from : m.from < 64) (to : m.to < 64) (facts : Facts p man m) where
  -- the carried board is sound
  pub carried_sound : Sound p m (moved_board p man m)
  carried_sound = record {
    kings = λ c.
        let n = carried_census p man m from to facts (is_king_of c) refl in
        let k : bit (is_king_of c (man_on p (captured_at p.target man m))) ≡ 0 = ap bit ((cap p man m from to facts).king c) in
        let e : bit (is_king_of c (Some (moved_man man m.promo))) ≡ bit (is_king_of c (Some man)) =
        ap bit (king_test c (moved_man man m.promo) man (colour_kept man m.promo) facts.king) in
        omega (arith, setup.kings c);
    few = few_carried p man m setup from to facts;
    pawns = carried_pawns p man m from to facts setup.pawns;
    king_home_kept = λ c w u. carried_edge p man m from to facts (king_home c) (king_edge c) u.from_king u.to_king;
    rook_home_kept = λ c w u. carried_edge p man m from to facts (rook_home c w) (rook_edge c w) u.from_rook u.to_rook;
  }

  -- so is the board with the castling rook moved
  pub castled_sound : (w : Wing) → is_castling man w m ≡ true → Sound p m (with_rook p.side w (moved_board p man m))
  castled_sound w h =
      let r = ready p man m setup from to facts w h in
      let was = carried_sound in
      let bare = remove (moved_board p man m) (rook_home p.side w) in
      let rook = rook_of p.side in
      let kept : (q : ℕ) → q ≢ crossed p.side w → q ≢ rook_home p.side w →
      man_at (with_rook p.side w (moved_board p man m)) q ≡ man_at (moved_board p man m) q =
      λ q a b. put_there bare (crossed p.side w) rook q a ∙ clear_there (moved_board p man m) (rook_home p.side w) q b in
      let home : man_at (with_rook p.side w (moved_board p man m)) (rook_home p.side w) ≡ None =
      put_there bare (crossed p.side w) rook (rook_home p.side w) (apart p.side w).rook_crossed ∙ clear_here (moved_board p man m) (rook_home p.side w) in
      record {
        kings = λ c. rook_census p man m (is_king_of c) refl w r ∙ was.kings c;
        few = λ c. omega (arith, rook_census p man m (is_of c) refl w r, was.few c);
        pawns = λ q inside e.
            elim (cases_eq q (crossed p.side w)) [
              | inl same ↦
                  let there : man_at (with_rook p.side w (moved_board p man m)) q ≡ Some (rook_of p.side) = rw same (put_here bare (crossed p.side w) rook) in
                  never (ap holds_pawn (sym there) ∙ e)
              | inr a ↦ elim (cases_eq q (rook_home p.side w)) [
                | inl same ↦
                    let none : man_at (with_rook p.side w (moved_board p man m)) q ≡ None = rw same home in
                    never (ap holds_pawn (sym none) ∙ e)
                | inr b ↦ was.pawns q inside (ap holds_pawn (sym (kept q a b)) ∙ e)
              ]
            ];
        king_home_kept = λ c v u.
            let other : c ≡ p.side → ⊥ = λ e. u.from_king (ap king_home e ∙ sym r.castling.from) in
            let x = elsewhere c p.side v w other in
            kept (king_home c) x.king_crossed x.king_rook ∙ was.king_home_kept c v u;
        rook_home_kept = λ c v u.
            let other : c ≡ p.side → ⊥ = λ e. u.from_king (ap king_home e ∙ sym r.castling.from) in
            let x = elsewhere c p.side v w other in
            kept (rook_home c v) x.rook_crossed x.rook_rook ∙ was.rook_home_kept c v u;
      }

  by_man : (w : Wing) → is_castling man w m ≡ true → Sound p m (with_rook man.colour w (moved_board p man m))
  by_man w h = subst (λ c. Sound p m (with_rook c w (moved_board p man m))) (sym facts.mine) (castled_sound w h)

  -- so is the board after the move
  pub placement_sound : Sound p m (placement_after p man m)
  placement_sound =
      elim (cases_Bool (is_castling man KingSide m)) [
        | inl x ↦ rw x (by_man KingSide x)
        | inr x ↦ elim (cases_Bool (is_castling man QueenSide m)) [
          | inl y ↦ rw (x, y) (by_man QueenSide y)
          | inr y ↦ rw (x, y) carried_sound
        ]
      ]

advance_placement : (p : PositionParts) (man : Man) (m : MoveParts) → is_advance man m ≡ true → placement_after p man m ≡ moved_board p man m
advance_placement p man m h =
    let a = and_parts _ _ h in
    let k : is_king man.kind ≡ false = pawn_no_king man.kind a.0 in
    rw k refl

-- after an advance of two squares the one passed over is explained
explained : (c : Colour) (was now : Men) (a b : ℕ) → Two c was a b → ((q : ℕ) → q ≢ b → was q ≡ None → now q ≡ None) → now a ≡ None →
    now b ≡ Some (record { colour = c; kind = Pawn }) → is_explained (opponent c) now ((a + b) / 2) ≡ true
explained White was now a b x none gone there =
    let back : (a + b) / 2 - 8 ≡ a = omega arith in
    let forth : (a + b) / 2 + 8 ≡ b = omega arith in
    explained_from Black now ((a + b) / 2) (omega arith, none ((a + b) / 2) (λ e. omega arith) x.free_over, ap now back ∙ gone, ap now forth ∙ there)
explained Black was now a b x none gone there =
    let back : (a + b) / 2 - 8 ≡ b = omega arith in
    let forth : (a + b) / 2 + 8 ≡ a = omega arith in
    explained_from White now ((a + b) / 2) (omega arith, none ((a + b) / 2) (λ e. omega arith) x.free_over, ap now forth ∙ gone, ap now back ∙ there)

one_at_least : (c : Colour) (n : ℕ) → 1 ≤ n → 1 ≤ number_after c n
one_at_least White n h = h
one_at_least Black n h = omega arith

-- a well-formed setup stays one, from the facts of the move
pub setup_by_facts : (p : PositionParts) (man : Man) (m : MoveParts) → IsSetup p → m.from < 64 → m.to < 64 → Facts p man m →
    IsSetup (after_by p (Some man) m)
setup_by_facts p man m setup from to facts =
    let sound = placement_sound p man m setup from to facts in
    record {
      kings = sound.kings;
      few = sound.few;
      pawns = sound.pawns;
      king_at_home = λ c w h. let u = untouched p c w m h in sound.king_home_kept c w u ∙ setup.king_at_home c w u.right;
      rook_at_home = λ c w h. let u = untouched p c w m h in sound.rook_home_kept c w u ∙ setup.rook_at_home c w u.right;
      target = λ t h.
          let x = cond_some _ _ _ h in
          let two = facts.advance x.0 in
          let there : man_at (moved_board p man m) m.to ≡ Some (record { colour = p.side; kind = Pawn }) =
          carried_here p man m from to facts ∙ ap (λ y. Some y) (facts.plain x.0) in
          let e : is_explained (opponent p.side) (man_at (moved_board p man m)) (midway m) ≡ true =
          explained p.side (man_on p) (man_at (moved_board p man m)) m.from m.to two (carried_none p man m from to facts)
          (carried_from p man m from to facts) there in
          subst (λ (q : ℕ). is_explained (opponent p.side) (man_at (placement_after p man m)) q ≡ true) x.1
          (subst (λ (b : Board). is_explained (opponent p.side) (man_at b) (midway m) ≡ true) (sym (advance_placement p man m x.0)) e);
      number = one_at_least p.side p.number setup.number;
    }

-- a well-formed setup stays one after a pseudo-legal move
pub setup_after : (p : PositionParts) (m : MoveParts) (man : Man) → IsSetup p → m.from < 64 → m.to < 64 → man_on p m.from ≡ Some man → is_pseudo p m ≡ true →
    IsSetup (after_by p (Some man) m)
setup_after p m man setup from to here pseudo = setup_by_facts p man m setup from to (facts p m setup from to man here pseudo)

-- the same, of the position after the move
pub setup_after_move : (p : PositionParts) (m : MoveParts) → IsSetup p → m.from < 64 → m.to < 64 → is_pseudo p m ≡ true → IsSetup (after p m)
unfolding after
setup_after_move p m setup from to pseudo =
    let (man, here) : (man : Man) × (man_on p m.from ≡ Some man) = pseudo_man p m pseudo in
    rw here (setup_after p m man setup from to here pseudo)

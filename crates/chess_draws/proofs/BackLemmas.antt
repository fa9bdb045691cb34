-- The board before a move that is no pawn's and no capture, and after which the same castling rights are held: one man stood elsewhere.
use Rattle.std.proofs.Common.{◌≡◌, ℕ, ◌==◌, ◌+◌, ◌<◌, Bool, true, false, not, ◌&&◌, ◌||◌, if◌then◌else◌, Option, Some, None, is_some, refl, sym, ap, subst, ◌∙◌, arith, inl, inr}
use Rattle.std.specs.Ordering.{nat_cmp}
use Rattle.std.specs.Cmp.{unsigned_tied}
use Rattle.std.specs.FinMap.{remove as remove_man}
use Rattle.std.specs.FinSet.{FinSet, contains, insert, remove, contains-insert, contains-remove}
use Rattle.std.proofs.lemmas.Cmp.{nat_cmp_total}
use Rattle.std.proofs.lemmas.Bool.{cases_Bool, cases_eq, true≢false, eq-eqb, ne_eqb}
use Rattle.chess_types.specs.declared.board.man.Colour.{Colour}
use Rattle.chess_types.specs.declared.board.man.Colour.TheVariants.{White, Black}
use Rattle.chess_types.specs.declared.board.man.Man.{Man}
use Rattle.chess_types.specs.declared.board.position.Rights.{Rights}
use Rattle.chess_types.specs.declared.board.position.Wing.{Wing}
use Rattle.chess_types.specs.declared.board.position.Wing.TheVariants.{KingSide, QueenSide}
use Rattle.chess_types.specs.board.Board.{Board, Men, man_at}
use Rattle.chess_types.specs.board.Men.{is_pawn}
use Rattle.chess_types.specs.board.MoveParts.{MoveParts}
use Rattle.chess_types.specs.board.Position.{PositionParts, IsSetup, man_on, king_home, holds}
use Rattle.chess_types.specs.board.After.{after, after_by, captured_at, clock_after, moved_man, moved_board, is_castling, touches, keeps, rights_after}
use Rattle.chess_types.specs.board.Legal.{is_legal}
use Rattle.chess_types.specs.steps.KeptSets.{Gathers}
use Rattle.chess_types.proofs.MoveLemmas.{pseudo_man, legal_pseudo}
use Rattle.chess_play.proofs.Census.{put_here, put_there, clear_here, clear_there}
use Rattle.chess_play.proofs.CastlingSquares.{castling_parts}
use Rattle.chess_play.proofs.Castled.{placement_plain}
use Rattle.chess_play.proofs.Facts.{Facts, facts}
use Rattle.chess_draws.specs.steps.LookBack.{IsStep}

-- a move from the king's home loses the right
lost : (right : Bool) (c : Colour) (w : Wing) (m : MoveParts) → m.from ≡ king_home c → keeps right c w m ≡ false
lost right c w m home =
    let touched : touches m (king_home c) ≡ true = ap (λ b. b || (m.to == king_home c)) (eq-eqb m.from (king_home c) home) in
    elim (cases_Bool right) [ inl e ↦ rw (e, touched) refl | inr e ↦ rw e refl ]

right_lost : (rights : Rights) (c : Colour) (w : Wing) (m : MoveParts) → m.from ≡ king_home c → holds (rights_after rights m) c w ≡ false
right_lost rights White KingSide m home = lost rights.white_king White KingSide m home
right_lost rights White QueenSide m home = lost rights.white_queen White QueenSide m home
right_lost rights Black KingSide m home = lost rights.black_king Black KingSide m home
right_lost rights Black QueenSide m home = lost rights.black_queen Black QueenSide m home

zero_not_less : {n : ℕ} → n ≡ 0 → 0 < n → ⊥
zero_not_less e h = omega arith

neither : (a b : Bool) → (a || b) ≡ false → (a ≡ false) × (b ≡ false)
neither true b h = absurd (true≢false h)
neither false b h = (refl, h)

nobody : (there : Option Man) → is_some there ≡ false → there ≡ None
nobody None h = refl
nobody (Some man) h = absurd (true≢false h)

module _ (p : PositionParts) (man : Man) (m : MoveParts) (f : Facts p man m) where
  -- whoever castles has the right before it alone
  no_castling : rights_after p.rights m ≡ p.rights → (w : Wing) → is_castling man w m ≡ false
  no_castling same w =
      elim (cases_Bool (is_castling man w m)) [
        | inr e ↦ e
        | inl e ↦
            let c = castling_parts p w m (f.castling w e) in
            absurd (true≢false (sym c.right ∙ ap (λ (r : Rights). holds r p.side w) (sym same) ∙ right_lost p.rights p.side w m c.from))
      ]

  step_by : rights_after p.rights m ≡ p.rights → is_pawn man.kind ≡ false → man_on p m.to ≡ None → IsStep (man_on p) (man_on (after_by p (Some man) m)) m
  step_by same no_pawn free =
      let plain = placement_plain p man m (no_castling same KingSide) (no_castling same QueenSide) in
      let at : captured_at p.target man m ≡ m.to = rw no_pawn refl in
      let first = remove_man p.placement (captured_at p.target man m) in
      let board : (s : ℕ) → man_on (after_by p (Some man) m) s ≡ man_at (moved_board p man m) s = λ s. ap (λ (b : Board). man_at b s) plain in
      record {
        some = ap is_some f.here;
        free = free;
        left = board m.from ∙ put_there (remove_man first m.from) m.to (moved_man man m.promo) m.from f.apart ∙ clear_here first m.from;
        there = board m.to ∙ put_here (remove_man first m.from) m.to (moved_man man m.promo) ∙ ap (λ (x : Man). Some x) (f.same no_pawn) ∙ sym f.here;
        elsewhere = λ s from to.
            board s ∙ put_there (remove_man first m.from) m.to (moved_man man m.promo) s to ∙ clear_there first m.from s from
            ∙ clear_there p.placement (captured_at p.target man m) s (λ e. to (e ∙ at));
      }

  -- a clock that isn't 0 says that no pawn moved and nothing was captured
  step_by_clock : rights_after p.rights m ≡ p.rights → 0 < clock_after p man m → IsStep (man_on p) (man_on (after_by p (Some man) m)) m
  step_by_clock same counts =
      elim (cases_Bool (is_pawn man.kind || is_some (man_on p m.to))) [
        | inl loud ↦ absurd (zero_not_less (ap (λ b. if b then 0 else p.clock + 1) loud) counts)
        | inr quiet ↦
            let both = neither _ _ quiet in
            step_by same both.0 (nobody _ both.1)
      ]

-- the same, of a legal move
pub step_back_to : (p : PositionParts) (m : MoveParts) → IsSetup p → m.from < 64 → m.to < 64 → is_legal p m ≡ true →
    0 < (after p m).clock → (after p m).rights ≡ p.rights → IsStep (man_on p) (man_on (after p m)) m
unfolding after
step_back_to p m setup from to legal counts same =
    let pseudo = legal_pseudo p m legal in
    let mover = pseudo_man p m pseudo in
    by_mover p m mover.0 mover.1 (facts p m setup from to mover.0 mover.1 pseudo) counts same
  where
    by_mover : (p : PositionParts) (m : MoveParts) (man : Man) → man_on p m.from ≡ Some man → Facts p man m →
        0 < (after_by p (man_on p m.from) m).clock → (after_by p (man_on p m.from) m).rights ≡ p.rights →
        IsStep (man_on p) (man_on (after_by p (man_on p m.from) m)) m
    by_mover p m man here f counts same =
        subst (λ o. IsStep (man_on p) (man_on (after_by p o m)) m) (sym here)
        (step_by_clock p man m f (subst (λ o. (after_by p o m).rights ≡ p.rights) here same) (subst (λ o. 0 < (after_by p o m).clock) here counts))

-- a square of a set in which one square has taken the place of another
exchanged : (set : FinSet nat_cmp) (from to s : ℕ) → contains (insert (remove set to) from) s ≡ ((s == from) || (not (s == to) && contains set s))
exchanged set from to s =
    contains-insert nat_cmp_total (remove set to) from s ∙ (λ i. unsigned_tied s from i || contains-remove nat_cmp_total set to s i)
    ∙ ap (λ b. (s == from) || (not b && contains set s)) (unsigned_tied s to)

-- a set of some men before the move: with the man who made it, or without
pub with_mover : (set : FinSet nat_cmp) (m : MoveParts) (before after : Men) (test : Option Man → Bool) → IsStep before after m → test None ≡ false →
    Gathers set test after → test (before m.from) ≡ true → Gathers (insert (remove set m.to) m.from) test before
with_mover set m before after test step none gathers holds s =
    exchanged set m.from m.to s ∙ elim (cases_eq s m.from) [
      | inl from ↦ rw (eq-eqb s m.from from) (sym (ap (λ x. test (before x)) from ∙ holds))
      | inr not_from ↦ elim (cases_eq s m.to) [
        | inl to ↦ rw (ne_eqb s m.from not_from, eq-eqb s m.to to) (sym (ap (λ x. test (before x)) to ∙ ap test step.free ∙ none))
        | inr not_to ↦ rw (ne_eqb s m.from not_from, ne_eqb s m.to not_to) (gathers s ∙ ap test (step.elsewhere s not_from not_to))
      ]
    ]

pub without_mover : (set : FinSet nat_cmp) (m : MoveParts) (before after : Men) (test : Option Man → Bool) → IsStep before after m → test None ≡ false →
    Gathers set test after → test (before m.from) ≡ false → Gathers set test before
without_mover set m before after test step none gathers fails s =
    gathers s ∙ elim (cases_eq s m.from) [
      | inl from ↦ ap (λ x. test (after x)) from ∙ ap test step.left ∙ none ∙ sym (ap (λ x. test (before x)) from ∙ fails)
      | inr not_from ↦ elim (cases_eq s m.to) [
        | inl to ↦ ap (λ x. test (after x)) to ∙ ap test step.there ∙ fails ∙ sym (ap (λ x. test (before x)) to ∙ ap test step.free ∙ none)
        | inr not_to ↦ ap test (step.elsewhere s not_from not_to)
      ]
    ]

-- whether the mover is one of them, by the square to which he went
pub moved_one : (set : FinSet nat_cmp) (m : MoveParts) (before after : Men) (test : Option Man → Bool) → IsStep before after m → Gathers set test after →
    test (before m.from) ≡ contains set m.to
moved_one set m before after test step gathers = sym (gathers m.to ∙ ap test step.there)

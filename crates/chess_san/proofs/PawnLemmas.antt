-- A pawn's text names its move alone.
use Rattle.std.proofs.Common.{◌≡◌, ◌≢◌, ℕ, ◌+◌, ◌/◌, Bool, true, false, not, ◌&&◌, Option, Some, None, is_some, refl, sym, ap, subst, ◌∙◌, arith, ◌⊎◌, inl, inr}
use Rattle.std.proofs.lemmas.Bool.{and_parts, and_from, and_right, or_from, or_left, or_right, true≢false, eqb-true, eq-eqb, ne_eqb, not_from_false}
use Rattle.chess_types.specs.declared.board.man.Colour.{Colour}
use Rattle.chess_types.specs.declared.board.man.Colour.TheVariants.{White, Black}
use Rattle.chess_types.specs.declared.board.man.Kind.{Kind}
use Rattle.chess_types.specs.declared.board.man.Kind.TheVariants.{Pawn}
use Rattle.chess_types.specs.declared.board.man.Man.{Man}
use Rattle.chess_types.specs.board.Board.{Men}
use Rattle.chess_types.specs.board.Squares.{file_of}
use Rattle.chess_types.specs.board.Men.{is_pawn, holds_pawn}
use Rattle.chess_types.specs.board.MoveParts.{MoveParts}
use Rattle.chess_types.specs.board.Position.{PositionParts, man_on}
use Rattle.chess_types.specs.board.Pseudo.{is_capturable, is_target, moves_as}
use Rattle.chess_play.proofs.Pawns.{One, Two, Takes, Ahead, Aside, pawn_moves, PawnMove}
use Rattle.chess_san.specs.Naming.{follows, may_be_plain}
use Rattle.chess_san.specs.Writing.{captures}
use Rattle.chess_san.proofs.ReadLemmas.{pawn_course}
use Rattle.chess_san.proofs.SameLemmas.{same_move, Mover, followed, follows_own}

-- straight forward, by one square or two
abbrev pub Straight : Colour → Men → ℕ → ℕ → Type 0
Straight c man_on a b = One c man_on a b ⊎ Two c man_on a b

ahead_file : (c : Colour) (a b : ℕ) → Ahead c a b → file_of a ≡ file_of b
ahead_file White a b h = omega arith
ahead_file Black a b h = omega arith

straight_file : (c : Colour) (man_on : Men) (a b : ℕ) → Straight c man_on a b → file_of a ≡ file_of b
straight_file c man_on a b h =
    elim h [ inl x ↦ ahead_file c a b x.ahead | inr x ↦ ahead_file c a ((a + b) / 2) x.over ∙ ahead_file c ((a + b) / 2) b x.on ]

straight_free : (c : Colour) (man_on : Men) (a b : ℕ) → Straight c man_on a b → man_on b ≡ None
straight_free c man_on a b h = elim h [ inl x ↦ x.free | inr x ↦ x.free ]

ahead_back : (c : Colour) (a d b : ℕ) → Ahead c a b → Ahead c d b → d ≡ a
ahead_back White a d b h g = omega arith
ahead_back Black a d b h g = omega arith

two_back : (c : Colour) (a d b : ℕ) → Ahead c a ((a + b) / 2) → Ahead c ((a + b) / 2) b → Ahead c d ((d + b) / 2) → Ahead c ((d + b) / 2) b → d ≡ a
two_back White a d b h g x y = omega arith
two_back Black a d b h g x y = omega arith

-- no pawn passes over another
barred : (man_on : Men) (a d : ℕ) (man : Man) → man_on a ≡ Some man → d ≡ a → man_on d ≡ None → ⊥
barred man_on a d man here same free =
    let e : None ≡ Some man = sym free ∙ ap man_on same ∙ here in
    cc

straight_back : (c : Colour) (man_on : Men) (a d b : ℕ) (man other : Man) → man_on a ≡ Some man → man_on d ≡ Some other → Straight c man_on a b → Straight c man_on d b → d ≡ a
straight_back c man_on a d b man other here there h g =
    elim h [
      | inl x ↦ elim g [
        | inl y ↦ ahead_back c a d b x.ahead y.ahead
        | inr y ↦ absurd (barred man_on a ((d + b) / 2) man here (ahead_back c a ((d + b) / 2) b x.ahead y.on) y.free_over)
      ]
      | inr x ↦ elim g [
        | inl y ↦ absurd (barred man_on d ((a + b) / 2) other there (ahead_back c d ((a + b) / 2) b y.ahead x.on) x.free_over)
        | inr y ↦ two_back c a d b x.over x.on y.over y.on
      ]
    ]

aside_file : (c : Colour) (a b : ℕ) → Aside c a b → file_of a ≢ file_of b
aside_file White a b h = h.0
aside_file Black a b h = h.0

aside_back : (c : Colour) (a d b : ℕ) → Aside c a b → Aside c d b → file_of a ≡ file_of d → d ≡ a
aside_back White a d b h g e = omega (arith, h.1, g.1)
aside_back Black a d b h g e = omega (arith, h.1, g.1)

-- what captures
no_capture : (p : PositionParts) (man : Man) (m : MoveParts) → man_on p m.to ≡ None → file_of m.from ≡ file_of m.to → captures p man m ≡ false
no_capture p man m free file = or_from _ _ (ap is_some free) (and_right _ _ (ap not (eq-eqb _ _ file)))

prey_there : (c : Colour) (there : Option Man) → is_capturable c there ≡ true → is_some there ≡ true
prey_there c None h = absurd (true≢false (sym h))
prey_there c (Some man) h = refl

at_target : (target : Option ℕ) (s : ℕ) → target ≡ Some s → is_target target s ≡ true
at_target target s h = ap (λ (t : Option ℕ). is_target t s) h ∙ eq-eqb s s refl

takes_captures : (p : PositionParts) (man : Man) (m : MoveParts) → is_pawn man.kind ≡ true → Takes p.side (man_on p) p.target m.from m.to → captures p man m ≡ true
takes_captures p man m pawn takes =
    elim takes.prey [
      | inl x ↦ or_left _ _ (prey_there p.side (man_on p m.to) x)
      | inr x ↦ or_right _ _ (and_from _ _ (and_from _ _ pawn (at_target p.target m.to x)) (not_from_false _ (ne_eqb _ _ (aside_file p.side m.from m.to takes.aside))))
    ]

pub pawn_is : (kind : Kind) → is_pawn kind ≡ true → kind ≡ Pawn
pawn_is Pawn h = refl
pawn_is _ h = absurd (true≢false (sym h))

pawn_move : (p : PositionParts) (m : MoveParts) (a : Mover p m) → a.man.kind ≡ Pawn → PawnMove p.side (man_on p) p.target m.from m.to
unfolding moves_as
pawn_move p m a is =
    let moves : moves_as p Pawn m ≡ true = ap (λ (k : Kind). moves_as p k m) (sym is) ∙ a.moves in
    pawn_moves p.side (man_on p) p.target m (and_parts _ _ moves).0

-- it captures, or goes straight
abbrev Moved : PositionParts → Man → MoveParts → Type 0
Moved p man m =
    (Takes p.side (man_on p) p.target m.from m.to × (captures p man m ≡ true)) ⊎ (Straight p.side (man_on p) m.from m.to × (captures p man m ≡ false))

moved_straight : (p : PositionParts) (man : Man) (m : MoveParts) → Straight p.side (man_on p) m.from m.to → Moved p man m
moved_straight p man m h =
    inr (h, no_capture p man m (straight_free p.side (man_on p) m.from m.to h) (straight_file p.side (man_on p) m.from m.to h))

moved : (p : PositionParts) (m : MoveParts) (a : Mover p m) → a.man.kind ≡ Pawn → Moved p a.man m
moved p m a is =
    elim (pawn_move p m a is) [
      | inl x ↦ moved_straight p a.man m (inl x)
      | inr y ↦ elim y [
        | inl x ↦ moved_straight p a.man m (inr x)
        | inr x ↦ inl (x, takes_captures p a.man m (ap is_pawn is) x)
      ]
    ]

holds_own : (p : PositionParts) (m : MoveParts) (a : Mover p m) → a.man.kind ≡ Pawn → holds_pawn (man_on p m.from) ≡ true
holds_own p m a is = ap holds_pawn a.here ∙ ap is_pawn is

own_kind : (p : PositionParts) (m : MoveParts) (a : Mover p m) → holds_pawn (man_on p m.from) ≡ true → a.man.kind ≡ Pawn
own_kind p m a h = pawn_is a.man.kind (sym (ap holds_pawn a.here) ∙ h)

-- the pawn's form names its move
pub pawn_names : (p : PositionParts) (m : MoveParts) (a : Mover p m) → a.man.kind ≡ Pawn → (taken : Bool) → captures p a.man m ≡ taken →
    (follows (pawn_course taken m) m && may_be_plain (pawn_course taken m).origin (man_on p m.from) m) ≡ true
pawn_names p m a is true e =
    and_from _ _ (follows_own (pawn_course true m) m refl (eq-eqb _ _ refl) refl refl) (and_from _ _ (holds_own p m a is) refl)
pawn_names p m a is false e =
    let file : file_of m.from ≡ file_of m.to = elim (moved p m a is) [
      | inl x ↦ absurd (true≢false (sym x.1 ∙ e))
      | inr x ↦ straight_file p.side (man_on p) m.from m.to x.0
    ] in
    and_from _ _ (follows_own (pawn_course false m) m refl refl refl refl) (and_from _ _ (holds_own p m a is) (eq-eqb _ _ file))

straight_move : (p : PositionParts) (n : MoveParts) (b : Mover p n) → b.man.kind ≡ Pawn → file_of n.from ≡ file_of n.to → Straight p.side (man_on p) n.from n.to
straight_move p n b is file =
    elim (moved p n b is) [ inl x ↦ absurd (aside_file p.side n.from n.to x.0.aside file) | inr x ↦ x.0 ]

takes_move : (p : PositionParts) (n : MoveParts) (b : Mover p n) → b.man.kind ≡ Pawn → file_of n.from ≢ file_of n.to → Aside p.side n.from n.to
takes_move p n b is file =
    elim (moved p n b is) [ inl x ↦ x.0.aside | inr x ↦ absurd (file (straight_file p.side (man_on p) n.from n.to x.0)) ]

-- and no other
pub pawn_same : (p : PositionParts) (m n : MoveParts) (a : Mover p m) (b : Mover p n) → a.man.kind ≡ Pawn → (taken : Bool) → captures p a.man m ≡ taken →
    (follows (pawn_course taken m) n && may_be_plain (pawn_course taken m).origin (man_on p n.from) n) ≡ true → n ≡ m
pawn_same p m n a b is true e h =
    let q = and_parts _ _ h in
    let f = followed (pawn_course true m) n q.0 in
    let kind : b.man.kind ≡ Pawn = own_kind p n b (and_parts _ _ q.1).0 in
    let same : file_of m.from ≡ file_of n.from = eqb-true _ _ f.file in
    let to : n.to ≡ m.to = f.to in
    let aside : Aside p.side m.from m.to = elim (moved p m a is) [ inl x ↦ x.0.aside | inr x ↦ absurd (true≢false (sym e ∙ x.1)) ] in
    let apart : file_of n.from ≢ file_of n.to = λ g. aside_file p.side m.from m.to aside (same ∙ g ∙ ap file_of to) in
    let other : Aside p.side n.from m.to = subst (λ (s : ℕ). Aside p.side n.from s) to (takes_move p n b kind apart) in
    same_move n m (aside_back p.side m.from n.from m.to aside other same) to f.promo
pawn_same p m n a b is false e h =
    let q = and_parts _ _ h in
    let f = followed (pawn_course false m) n q.0 in
    let r = and_parts _ _ q.1 in
    let kind : b.man.kind ≡ Pawn = own_kind p n b r.0 in
    let to : n.to ≡ m.to = f.to in
    let own : Straight p.side (man_on p) m.from m.to = elim (moved p m a is) [ inl x ↦ absurd (true≢false (sym x.1 ∙ e)) | inr x ↦ x.0 ] in
    let other : Straight p.side (man_on p) n.from m.to =
    subst (λ (s : ℕ). Straight p.side (man_on p) n.from s) to (straight_move p n b kind (eqb-true _ _ r.1)) in
    same_move n m (straight_back p.side (man_on p) m.from n.from m.to a.man b.man a.here b.here own other) to f.promo

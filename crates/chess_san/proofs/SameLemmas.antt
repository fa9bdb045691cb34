-- Two legal moves that one form names are one move.
use Rattle.std.proofs.Common.{◌≡◌, ℕ, zero, suc, ◌<◌, ◌==◌, Bool, true, false, List, [], ◌∷◌, length, filter, get_or, Option, Some, None, refl, sym, ap, ◌∙◌, arith, inl, inr}
use Rattle.std.specs.List.{Contains, list_any}
use Rattle.std.proofs.lemmas.Bool.{and_parts, and_from, true≢false, eqb-true, eq-eqb, ne_eqb, cases_Bool, cases_eq, not_from_false}
use Rattle.std.proofs.lemmas.List.Folds.{list_any_at}
use Rattle.chess_types.specs.declared.board.man.Colour.{Colour}
use Rattle.chess_types.specs.declared.board.man.Kind.{Kind}
use Rattle.chess_types.specs.declared.board.man.Kind.TheVariants.{Pawn}
use Rattle.chess_types.specs.declared.board.man.Man.{Man}
use Rattle.chess_types.specs.declared.board.position.Wing.{Wing}
use Rattle.chess_types.specs.steps.ManCode.{kind_of, kind_of-number}
use Rattle.chess_types.specs.board.Squares.{file_of, rank_of}
use Rattle.chess_types.specs.board.Men.{is_pawn, kind_number}
use Rattle.chess_types.specs.board.MoveParts.{MoveParts}
use Rattle.chess_types.specs.board.Position.{PositionParts, man_on, king_home}
use Rattle.chess_types.specs.board.Pseudo.{reached, moves_as, is_pseudo}
use Rattle.chess_types.specs.board.Legal.{is_legal, legal_moves}
use Rattle.chess_types.specs.board.Outcome.{is_without}
use Rattle.chess_types.proofs.AllMoves.{IsMove}
use Rattle.chess_types.proofs.SameLemmas.{same_is, none_is, king_no_pawn}
use Rattle.chess_play.proofs.CastlingSquares.{castles_where}
use Rattle.chess_types.proofs.MoveLemmas.{pseudo_man, legal_pseudo}
use Rattle.chess_moves.proofs.LegalLaws.{legal_listed}
use Rattle.chess_san.specs.declared.form.Course.{Course}
use Rattle.chess_san.specs.Naming.{is_kind, castles_by, fits, becomes, follows}
use Rattle.chess_san.specs.Writing.{is_rival, rivals, share_file, share_rank, origin_by, origin_among, origin_of}

pub same_move : (m n : MoveParts) → m.from ≡ n.from → m.to ≡ n.to → m.promo ≡ n.promo → m ≡ n
same_move m n a b c = λ i. record { from = a i; to = b i; promo = c i }

-- the man that makes a legal move
pub record Mover (p : PositionParts) (m : MoveParts) : Type 0 where
  pub man : Man
  pub here : man_on p m.from ≡ Some man
  pub mine : man.colour ≡ p.side
  pub moves : moves_as p man.kind m ≡ true

pub mover : (p : PositionParts) (m : MoveParts) → is_legal p m ≡ true → Mover p m
mover p m h =
    let pseudo : is_pseudo p m ≡ true = legal_pseudo p m h in
    let (man, here) : (man : Man) × (man_on p m.from ≡ Some man) = pseudo_man p m pseudo in
    let a = and_parts _ _ (rw here at pseudo) in
    record { man = man; here = here; mine = same_is man.colour p.side a.0; moves = a.1 }

-- a man that isn't a pawn becomes nothing
pub plain_promo : (p : PositionParts) (kind : Kind) (m : MoveParts) → is_pawn kind ≡ false → moves_as p kind m ≡ true → m.promo ≡ None
unfolding moves_as
plain_promo p Pawn m h moves = absurd (true≢false h)
plain_promo p _ m h moves = none_is _ (and_parts _ _ moves).1

pub kind_is : (a b : Kind) → (kind_number a == kind_number b) ≡ true → a ≡ b
kind_is a b h = sym (kind_of-number a) ∙ ap kind_of (eqb-true _ _ h) ∙ kind_of-number b

-- castling
pub record Castled (p : PositionParts) (wing : Wing) (m : MoveParts) : Type 0 where
  pub from : m.from ≡ king_home p.side
  pub to : m.to ≡ reached p.side wing
  pub promo : m.promo ≡ None

pub castled : (p : PositionParts) (wing : Wing) (m : MoveParts) → Mover p m → castles_by (man_on p m.from) wing m ≡ true → Castled p wing m
castled p wing m a h =
    let here : man_on p m.from ≡ Some a.man = a.here in
    let q = and_parts _ _ (rw here at h) in
    let w = castles_where a.man.colour wing m q.1 in
    record {
      from = w.0 ∙ ap king_home a.mine;
      to = w.1 ∙ ap (λ (c : Colour). reached c wing) a.mine;
      promo = plain_promo p a.man.kind m (king_no_pawn a.man.kind q.0) a.moves;
    }

pub castled_same : (p : PositionParts) (wing : Wing) (m n : MoveParts) → Mover p m → Mover p n → castles_by (man_on p m.from) wing m ≡ true →
    castles_by (man_on p n.from) wing n ≡ true → n ≡ m
castled_same p wing m n a b h g =
    let x = castled p wing m a h in
    let y = castled p wing n b g in
    same_move n m (y.from ∙ sym x.from) (y.to ∙ sym x.to) (y.promo ∙ sym x.promo)

-- a course that is followed
pub record Followed (course : Course) (m : MoveParts) : Type 0 where
  pub to : m.to ≡ course.to
  pub file : fits course.origin.file (file_of m.from) ≡ true
  pub rank : fits course.origin.rank (rank_of m.from) ≡ true
  pub promo : m.promo ≡ course.promo

became : (a b : Option Kind) → becomes a b ≡ true → b ≡ a
became None None h = refl
became None (Some k) h = absurd (true≢false (sym h))
became (Some k) None h = absurd (true≢false (sym h))
became (Some k) (Some l) h = ap (λ x. Some x) (sym (kind_is k l h))

pub followed : (course : Course) (m : MoveParts) → follows course m ≡ true → Followed course m
followed course m h =
    let a = and_parts _ _ h in
    let b = and_parts _ _ a.0 in
    let c = and_parts _ _ b.0 in
    record { to = eqb-true _ _ c.0; file = c.1; rank = b.1; promo = became course.promo m.promo a.1 }

pub becomes_itself : (a : Option Kind) → becomes a a ≡ true
becomes_itself None = refl
becomes_itself (Some k) = eq-eqb _ _ refl

pub follows_own : (course : Course) (m : MoveParts) → m.to ≡ course.to → fits course.origin.file (file_of m.from) ≡ true →
    fits course.origin.rank (rank_of m.from) ≡ true → m.promo ≡ course.promo → follows course m ≡ true
follows_own course m to file rank promo =
    and_from _ _ (and_from _ _ (and_from _ _ (eq-eqb _ _ to) file) rank) (ap (becomes course.promo) promo ∙ becomes_itself course.promo)

-- disambiguation
told_by : (none file rank : Bool) (from at : ℕ) → (none ≡ true → ⊥) → (file_of at ≡ file_of from → file ≡ true) → (rank_of at ≡ rank_of from → rank ≡ true) →
    fits (origin_by none file rank from).file (file_of at) ≡ true → fits (origin_by none file rank from).rank (rank_of at) ≡ true → at ≡ from
told_by true file rank from at some f r hf hr = absurd (some refl)
told_by false false rank from at some f r hf hr = absurd (true≢false (sym (f (sym (eqb-true _ _ hf)))))
told_by false true false from at some f r hf hr = absurd (true≢false (sym (r (sym (eqb-true _ _ hr)))))
told_by false true true from at some f r hf hr =
    let file : file_of from ≡ file_of at = eqb-true _ _ hf in
    let rank : rank_of from ≡ rank_of at = eqb-true _ _ hr in
    omega arith

not_without : (others : List MoveParts) (n : MoveParts) → Contains others n → is_without others ≡ true → ⊥
not_without [] n h e = omega (arith, h.1)
not_without (m ∷ moves) n h e = true≢false (sym e)

shared : (test : MoveParts → Bool) (others : List MoveParts) (n : MoveParts) → Contains others n → test n ≡ true → list_any test others ≡ true
shared test others n h passes = list_any_at test others h.0 n h.1 (ap test h.2 ∙ passes)

told : (others : List MoveParts) (from : ℕ) (n : MoveParts) → Contains others n → fits (origin_among others from).file (file_of n.from) ≡ true →
    fits (origin_among others from).rank (rank_of n.from) ≡ true → n.from ≡ from
unfolding origin_among
told others from n h file rank =
    told_by (is_without others) (share_file others from) (share_rank others from) from n.from (not_without others n h)
    (λ e. shared (λ (x : MoveParts). file_of x.from == file_of from) others n h (eq-eqb _ _ e))
    (λ e. shared (λ (x : MoveParts). rank_of x.from == rank_of from) others n h (eq-eqb _ _ e)) file rank

passing : (test : MoveParts → Bool) (ms : List MoveParts) (k : ℕ) (m : MoveParts) → k < length ms → get_or ms k m ≡ m → test m ≡ true → Contains (filter test ms) m
passing test [] k m within is h = absurd (omega arith)
passing test (n ∷ ms) zero m within is h = let here : test n ≡ true = ap test is ∙ h in rw here (0, omega arith, is)
passing test (n ∷ ms) (suc k) m within is h =
    let c = passing test ms k m (omega arith) is h in
    elim (cases_Bool (test n)) [
      | inl kept ↦ rw kept (suc c.0, omega (arith, c.1), c.2)
      | inr out ↦ rw out c
    ]

pub piece_from : (p : PositionParts) (kind : Kind) (m n : MoveParts) → IsMove n → is_legal p n ≡ true → n.to ≡ m.to → is_kind kind (man_on p n.from) ≡ true →
    fits (origin_of p kind m).file (file_of n.from) ≡ true → fits (origin_of p kind m).rank (rank_of n.from) ≡ true → n.from ≡ m.from
unfolding rivals
piece_from p kind m n on legal to is file rank =
    elim (cases_eq n.from m.from) [
      | inl same ↦ same
      | inr other ↦
          let listed = legal_listed p n on legal in
          let rival : is_rival p kind m.from m.to n ≡ true = and_from _ _ (and_from _ _ (eq-eqb _ _ to) (not_from_false _ (ne_eqb _ _ other))) is in
          told (rivals p kind m.from m.to) m.from n (passing (is_rival p kind m.from m.to) (legal_moves p) listed.0 n listed.1 listed.2 rival) file rank
    ]

-- Where the legal moves of a kind to a square begin, seen from that square.
use Rattle.std.proofs.Common.{◌≡◌, ℕ, ◌+◌, ◌*◌, ◌<◌, ◌==◌, Bool, true, false, ◌&&◌, ◌||◌, Option, Some, None, is_some, refl, sym, ap, ◌∙◌, arith, inl}
use Rattle.std.specs.Prelude.{nat_lt}
use Rattle.std.specs.Cmp.{nat_cmp_total}
use Rattle.std.specs.Ordering.{nat_cmp}
use Rattle.std.specs.FinSet.{FinSet, contains, insert, intersection, contains-intersection}
use Rattle.std.proofs.Math.Bool.{and-false}
use Rattle.std.proofs.lemmas.Bool.{and_parts, and_from, true≢false, eqb-true, eq-eqb, or_right}
use Rattle.std.proofs.lemmas.Bool.Decides.{nat_tests}
use Rattle.chess_types.specs.declared.board.axis.Axis.{Axis}
use Rattle.chess_types.specs.declared.board.axis.Axis.TheVariants.{Rank, File, Rising, Falling}
use Rattle.chess_types.specs.declared.board.man.Colour.{Colour}
use Rattle.chess_types.specs.declared.board.man.Colour.TheVariants.{White, Black}
use Rattle.chess_types.specs.declared.board.man.Kind.{Kind}
use Rattle.chess_types.specs.declared.board.man.Kind.TheVariants.{Pawn, Knight, Bishop, Rook, Queen, King}
use Rattle.chess_types.specs.declared.board.man.Man.{Man}
use Rattle.chess_types.specs.declared.board.position.Wing.{Wing}
use Rattle.chess_types.proofs.MoveLemmas.{legal_pseudo}
use Rattle.chess_types.specs.board.Board.{Men}
use Rattle.chess_types.specs.board.Squares.{line_of, file_of, rank_of}
use Rattle.chess_types.specs.board.Men.{opponent, same_colour, is_of, is_king_of, is_pawn, is_king, holds_pawn, kind_number}
use Rattle.chess_types.specs.board.Attack.{leaps, slides, slides_on, slides_to, attacks_as}
use Rattle.chess_types.specs.steps.KeptSets.{Gathers, is_straight, is_diagonal, holds_straight, holds_diagonal}
use Rattle.chess_types.specs.board.MoveParts.{MoveParts}
use Rattle.chess_types.specs.board.Position.{PositionParts, man_on, cell_of}
use Rattle.chess_types.specs.board.Legal.{is_legal}
use Rattle.chess_attack.proofs.Flips.{equal_flip, leap_back, leap_flip}
use Rattle.chess_attack.proofs.KingSteps.{clear_flip}
use Rattle.chess_attack.proofs.Reached.{inserted, leaper_targets}
use Rattle.chess_moves.specs.steps.Targets.{is_forward, attacks_from, is_candidate}
use Rattle.chess_moves.proofs.Candidates.{pseudo_is, go_reach}
use Rattle.chess_san.specs.declared.form.Course.{Course}
use Rattle.chess_san.specs.declared.form.Form.TheVariants.{Castles, Piece, Plain}
use Rattle.chess_san.specs.Naming.{is_kind, fits, names}
use Rattle.chess_san.specs.steps.Origins.{Comes, ComesBy}
use Rattle.chess_san.proofs.PawnLemmas.{pawn_is}
use Rattle.chess_san.proofs.SameLemmas.{mover, kind_is, followed}

-- a square of the board
pub within : (s : ℕ) (b : Bool) → s < 64 → (nat_lt s 64 && b) ≡ b
within s b h = let low : nat_lt s 64 ≡ true = grind (arith, nat_tests) in rw low refl

on_flip : (kind : Kind) (axis : Axis) (a b : ℕ) → slides_on kind axis a b ≡ slides_on kind axis b a
on_flip k axis a b = ap (λ (x : Bool). slides k axis && x) (equal_flip (line_of axis a) (line_of axis b))

slide_flip : (kind : Kind) (a b : ℕ) → slides_to kind a b ≡ slides_to kind b a
unfolding slides_to
slide_flip k a b = rw (on_flip k Rank a b, on_flip k File a b, on_flip k Rising a b, on_flip k Falling a b, equal_flip a b) refl

attack_flip : (man : Man) (man_on : Men) (a b : ℕ) → is_pawn man.kind ≡ false → attacks_as man man_on a b ≡ attacks_as man man_on b a
unfolding attacks_as
attack_flip man man_on a b h = rw (leap_flip man.colour man.kind a b h, slide_flip man.kind a b, clear_flip man_on a b) refl

same_self : (c : Colour) → same_colour c c ≡ true
same_self White = refl
same_self Black = refl

module _ (p : PositionParts) (kind : Kind) (m : MoveParts) (legal : is_legal p m ≡ true) (there : is_kind kind (man_on p m.from) ≡ true) where
  own_cell : man_on p m.from ≡ cell_of p.side kind
  own_cell =
      let a = mover p m legal in
      let named : is_kind kind (Some a.man) ≡ true = ap (is_kind kind) (sym a.here) ∙ there in
      let same : a.man.kind ≡ kind = kind_is a.man.kind kind named in
      a.here ∙ (λ i. Some (record { colour = a.mine i; kind = same i }))

  pub own_there : is_of p.side (man_on p m.from) ≡ true
  own_there = ap (is_of p.side) own_cell ∙ same_self p.side

  reached_from : is_candidate p kind m.from m.to ≡ true
  reached_from = go_reach p kind m.from m.to (and_parts _ _ (sym (pseudo_is p kind m own_cell) ∙ legal_pseudo p m legal)).0

  pub king_from : kind ≡ King → is_king_of p.side (man_on p m.from) ≡ true
  king_from is = ap (is_king_of p.side) own_cell ∙ and_from _ _ (same_self p.side) (ap is_king is)

seen_by : (p : PositionParts) (kind : Kind) (a b : ℕ) → is_pawn kind ≡ false → is_king kind ≡ false → is_candidate p kind a b ≡ true → attacks_from p kind b a ≡ true
unfolding is_candidate
seen_by p Pawn a b pawn king h = absurd (true≢false pawn)
seen_by p Knight a b pawn king h = sym (attack_flip (record { colour = p.side; kind = Knight }) (man_on p) a b refl) ∙ h
seen_by p Bishop a b pawn king h = sym (attack_flip (record { colour = p.side; kind = Bishop }) (man_on p) a b refl) ∙ h
seen_by p Rook a b pawn king h = sym (attack_flip (record { colour = p.side; kind = Rook }) (man_on p) a b refl) ∙ h
seen_by p Queen a b pawn king h = sym (attack_flip (record { colour = p.side; kind = Queen }) (man_on p) a b refl) ∙ h
seen_by p King a b pawn king h = absurd (true≢false king)

-- a knight, bishop, rook or queen begins on a square that it would attack from the target
pub piece_comes : (p : PositionParts) (kind : Kind) (to : ℕ) (seen own like : FinSet nat_cmp) → is_pawn kind ≡ false → is_king kind ≡ false →
    ((s : ℕ) → s < 64 → contains seen s ≡ attacks_from p kind to s) → Gathers own (is_of p.side) (man_on p) →
    ((s : ℕ) → is_kind kind (man_on p s) ≡ true → contains like s ≡ true) → Comes (intersection (intersection seen own) like) p kind to
piece_comes p k to seen own like pawn king sees of_own alike = λ m on is legal there.
    let attacked : attacks_from p k to m.from ≡ true =
    ap (λ (s : ℕ). attacks_from p k s m.from) (sym is) ∙ seen_by p k m.from m.to pawn king (reached_from p k m legal there) in
    contains-intersection nat_cmp_total (intersection seen own) like m.from
    ∙ and_from _ _
    (contains-intersection nat_cmp_total seen own m.from
    ∙ and_from _ _ (sees m.from on ∙ attacked) (of_own m.from ∙ own_there p k m legal there))
    (alike m.from there)

pawn_reach : (p : PositionParts) (a b : ℕ) → is_candidate p Pawn a b ≡ true → (leaps (opponent p.side) Pawn b a || is_forward p.side 8 a b || is_forward p.side 16 a b) ≡ true
unfolding is_candidate
pawn_reach p a b h =
    let leap : leaps (opponent p.side) Pawn b a ≡ attacks_from p Pawn a b =
    leap_back p.side Pawn a b ∙ leaper_targets (record { colour = p.side; kind = Pawn }) (man_on p) a b (inl refl) in
    ap (λ (x : Bool). x || is_forward p.side 8 a b || is_forward p.side 16 a b) leap ∙ h

-- a pawn begins diagonally behind, or one or two squares behind
pub pawn_comes : (p : PositionParts) (to : ℕ) (aside one two own : FinSet nat_cmp) →
    ((s : ℕ) → s < 64 → contains aside s ≡ leaps (opponent p.side) Pawn to s) →
    ((s : ℕ) → s < 64 → contains one s ≡ (contains aside s || is_forward p.side 8 s to)) →
    ((s : ℕ) → s < 64 → contains two s ≡ (contains one s || is_forward p.side 16 s to)) →
    Gathers own (is_of p.side) (man_on p) → Comes (intersection two own) p Pawn to
pawn_comes p to aside one two own leap first second of_own = λ m on is legal there.
    let has : contains two m.from ≡ (leaps (opponent p.side) Pawn to m.from || is_forward p.side 8 m.from to || is_forward p.side 16 m.from to) =
    second m.from on
    ∙ ap (λ (x : Bool). x || is_forward p.side 16 m.from to) (first m.from on ∙ ap (λ (x : Bool). x || is_forward p.side 8 m.from to) (leap m.from on)) in
    contains-intersection nat_cmp_total two own m.from
    ∙ and_from _ _
    (has
    ∙ ap (λ (s : ℕ). leaps (opponent p.side) Pawn s m.from || is_forward p.side 8 m.from s || is_forward p.side 16 m.from s) (sym is)
    ∙ pawn_reach p m.from m.to (reached_from p Pawn m legal there))
    (of_own m.from ∙ own_there p Pawn m legal there)

behind_one : (c : Colour) (by from s to : ℕ) → is_forward c by from to ≡ true → (from == s) ≡ is_forward c by s to
behind_one White by from s to h = let e = eqb-true to (from + by) h in grind (arith, nat_tests, e)
behind_one Black by from s to h = let e = eqb-true from (to + by) h in grind (arith, nat_tests, e)

-- the set with the square so far behind
pub behind_set : (set new : FinSet nat_cmp) (c : Colour) (by from to : ℕ) → new ≡ insert set from → is_forward c by from to ≡ true →
    (s : ℕ) → contains new s ≡ (contains set s || is_forward c by s to)
behind_set set new c by from to is h = λ s.
    ap (λ (x : FinSet nat_cmp). contains x s) is ∙ inserted set from s ∙ ap (λ (b : Bool). contains set s || b) (behind_one c by from s to h)

-- a castling king begins where the king of the side to move stands
pub castles_comes : (p : PositionParts) (wing : Wing) (set : FinSet nat_cmp) → Gathers set (is_king_of p.side) (man_on p) → ComesBy set p (Castles wing)
unfolding names
castles_comes p wing set gathers = λ m on legal named.
    let a = mover p m legal in
    let here : man_on p m.from ≡ Some a.man = a.here in
    let king : is_king a.man.kind ≡ true = (and_parts _ _ (rw here at named)).0 in
    gathers m.from ∙ ap (is_king_of p.side) here ∙ and_from _ _ (ap (λ c. same_colour c p.side) a.mine ∙ same_self p.side) king

pub piece_comes_by : (p : PositionParts) (kind : Kind) (course : Course) (set : FinSet nat_cmp) → Comes set p kind course.to → ComesBy set p (Piece kind course)
unfolding names
piece_comes_by p k course set comes = λ m on legal named.
    let q = and_parts _ _ (and_parts _ _ named).0 in
    comes m on (followed course m q.0).to legal q.1

pawn_kind : (o : Option Man) → holds_pawn o ≡ true → is_kind Pawn o ≡ true
pawn_kind None h = absurd (true≢false (sym h))
pawn_kind (Some man) h = ap (λ k. kind_number k == kind_number Pawn) (pawn_is man.kind h)

-- the square of a file and a rank
pub square_has : (none new : FinSet nat_cmp) (t file rank : ℕ) → new ≡ insert none t → t ≡ 8 * rank + file → (s : ℕ) → file_of s ≡ file → rank_of s ≡ rank → contains new s ≡ true
square_has none new t file rank is at s hf hr =
    ap (λ (x : FinSet nat_cmp). contains x s) is ∙ inserted none t s ∙ or_right (contains none s) (t == s) (eq-eqb t s (omega arith))

-- without a letter and without both a file and a rank, a pawn moves
plain_comes_by : (p : PositionParts) (course : Course) (set : FinSet nat_cmp) → (is_some course.origin.file && is_some course.origin.rank) ≡ false →
    Comes set p Pawn course.to → ComesBy set p (Plain course)
unfolding names
plain_comes_by p course set lacks comes = λ m on legal named.
    let q = and_parts _ _ named in
    let pawn : holds_pawn (man_on p m.from) ≡ true = (and_parts _ _ (rw lacks at q.1)).0 in
    comes m on (followed course m q.0).to legal (pawn_kind (man_on p m.from) pawn)

no_file : (file rank : Option ℕ) → file ≡ None → (is_some file && is_some rank) ≡ false
no_file file rank none = ap (λ (o : Option ℕ). is_some o && is_some rank) none

no_rank : (file rank : Option ℕ) → rank ≡ None → (is_some file && is_some rank) ≡ false
no_rank file rank none = ap (λ (o : Option ℕ). is_some file && is_some o) none ∙ and-false (is_some file)

pub without_file : (p : PositionParts) (course : Course) (set : FinSet nat_cmp) → course.origin.file ≡ None → Comes set p Pawn course.to → ComesBy set p (Plain course)
without_file p course set none = plain_comes_by p course set (no_file course.origin.file course.origin.rank none)

pub without_rank : (p : PositionParts) (course : Course) (set : FinSet nat_cmp) → course.origin.rank ≡ None → Comes set p Pawn course.to → ComesBy set p (Plain course)
without_rank p course set none = plain_comes_by p course set (no_rank course.origin.file course.origin.rank none)

-- with both, the man on that square
pub square_comes_by : (p : PositionParts) (course : Course) (file rank : ℕ) (set : FinSet nat_cmp) → course.origin.file ≡ Some file → course.origin.rank ≡ Some rank →
    ((s : ℕ) → s < 64 → file_of s ≡ file → rank_of s ≡ rank → contains set s ≡ true) → ComesBy set p (Plain course)
unfolding names
square_comes_by p course file rank set is_file is_rank has = λ m on legal named.
    let f = followed course m (and_parts _ _ named).0 in
    let same_file : (file == file_of m.from) ≡ true = ap (λ o. fits o (file_of m.from)) (sym is_file) ∙ f.file in
    let same_rank : (rank == rank_of m.from) ≡ true = ap (λ o. fits o (rank_of m.from)) (sym is_rank) ∙ f.rank in
    has m.from on (sym (eqb-true _ _ same_file)) (sym (eqb-true _ _ same_rank))

-- a queen stands on the squares that both kinds of lines have
pub queens_in : (straight diagonal : FinSet nat_cmp) (man_on : Men) → Gathers straight holds_straight man_on → Gathers diagonal holds_diagonal man_on →
    (s : ℕ) → is_kind Queen (man_on s) ≡ true → contains (intersection straight diagonal) s ≡ true
queens_in straight diagonal man_on of_straight of_diagonal s h =
    contains-intersection nat_cmp_total straight diagonal s
    ∙ and_from _ _ (of_straight s ∙ queen_straight (man_on s) h) (of_diagonal s ∙ queen_diagonal (man_on s) h)
  where
    queen_straight : (o : Option Man) → is_kind Queen o ≡ true → holds_straight o ≡ true
    queen_straight None h = absurd (true≢false (sym h))
    queen_straight (Some man) h = ap is_straight (kind_is man.kind Queen h)

    queen_diagonal : (o : Option Man) → is_kind Queen o ≡ true → holds_diagonal o ≡ true
    queen_diagonal None h = absurd (true≢false (sym h))
    queen_diagonal (Some man) h = ap is_diagonal (kind_is man.kind Queen h)

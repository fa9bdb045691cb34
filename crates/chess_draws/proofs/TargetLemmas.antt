-- The en passant target counts exactly where one of two pawns captures on it.
use Rattle.std.proofs.Common.{◌≡◌, ◌≢◌, ℕ, ◌+◌, ◌<◌, ◌≤◌, ◌==◌, Bool, true, false, not, ◌&&◌, ◌||◌, Option, Some, None, refl, sym, ap, subst, ◌∙◌, ◌⊎◌, inl, inr, arith}
use Rattle.std.proofs.lemmas.List.Folds.{Any-from_list_any, list_any-from_Any}
use Rattle.std.proofs.lemmas.Bool.{and_parts, and_from, or_cases, cases_eq, not-true, true≢false, eqb-true, eq-eqb, ne_eqb, eqb-false, false_from_ne_true, cases_Bool, cond-true, cond-false}
use Rattle.chess_types.specs.declared.board.man.Colour.{Colour}
use Rattle.chess_types.specs.declared.board.man.Colour.TheVariants.{White, Black}
use Rattle.chess_types.specs.declared.board.man.Kind.{Kind}
use Rattle.chess_types.specs.declared.board.man.Kind.TheVariants.{Pawn}
use Rattle.chess_types.specs.declared.board.man.Man.{Man}
use Rattle.chess_types.specs.board.Squares.{file_of, rank_of}
use Rattle.chess_types.specs.board.Board.{Men}
use Rattle.chess_types.specs.board.Men.{same_colour, is_pawn}
use Rattle.chess_types.specs.board.Attack.{distance, leaps}
use Rattle.chess_types.specs.board.MoveParts.{MoveParts}
use Rattle.chess_types.specs.board.Position.{PositionParts, IsSetup, is_explained, man_on, cell_of}
use Rattle.chess_types.specs.board.Pseudo.{is_target, midway, pawn_promotion_fits, steps_one, steps_two, pawn_takes, moves_as, moves_man}
use Rattle.chess_types.specs.board.Legal.{is_legal, legal_moves}
use Rattle.chess_types.specs.board.Repetition.{same_man, takes_target, target_counts, counting_target}
use Rattle.chess_types.proofs.TargetLemmas.{Explained, explained_parts, target_not_last}
use Rattle.chess_types.proofs.SameLemmas.{same_self, same_is, none_is}
use Rattle.chess_types.proofs.MoveLemmas.{legal_pseudo, ahead_file}
use Rattle.chess_play.proofs.Pawns.{target_is}
use Rattle.chess_moves.specs.steps.Targets.{move_to}
use Rattle.chess_moves.proofs.LegalLaws.{legal_listed, listed_legal}
use Rattle.chess_san.proofs.PawnLemmas.{pawn_is}
use Rattle.chess_draws.proofs.RepetitionKeyLemmas.{man_is}

-- a pawn of the side to move stands there, and captures legally on the other square
abbrev pub is_taken : PositionParts → ℕ → ℕ → Bool
is_taken p a t = same_man (man_on p a) (cell_of p.side Pawn) && is_legal p (move_to a t None)

-- no target, no counting one
pub no_target : (p : PositionParts) → p.target ≡ None → counting_target p ≡ None
unfolding counting_target
no_target p none = elim (cases_Bool (target_counts p)) [ inl h ↦ cond-true _ _ _ h ∙ none | inr h ↦ cond-false _ _ _ h ]

pawn_takes_it : (p : PositionParts) (a t : ℕ) → man_on p a ≡ cell_of p.side Pawn → p.target ≡ Some t → file_of a ≢ file_of t →
    takes_target p (man_on p a) (move_to a t None) ≡ true
pawn_takes_it p a t here is other = rw (here, is, eq-eqb t t refl, ne_eqb (file_of a) (file_of t) other) refl

-- such a capture from another file makes the target count
taken_counts : (p : PositionParts) (a t : ℕ) → p.target ≡ Some t → a < 64 → t < 64 → file_of a ≢ file_of t → is_taken p a t ≡ true →
    counting_target p ≡ Some t
unfolding counting_target target_counts
taken_counts p a t is from to other h =
    let both = and_parts (same_man (man_on p a) (cell_of p.side Pawn)) (is_legal p (move_to a t None)) h in
    let here = man_is (man_on p a) (cell_of p.side Pawn) both.0 in
    let listed = legal_listed p (move_to a t None) (record { from = from; to = to }) both.1 in
    let test = λ (m : MoveParts). takes_target p (man_on p m.from) m in
    let counts = list_any-from_Any test (legal_moves p) (listed.0, move_to a t None, listed.1, listed.2, pawn_takes_it p a t here is other) in
    cond-true _ _ _ counts ∙ is

-- a target is on the third rank or the sixth
target_by : (c : Colour) (men : Men) (t : ℕ) → Explained c men t → (16 ≤ t) × (t < 48)
target_by White men t e = (omega arith, omega arith)
target_by Black men t e = (omega arith, omega arith)

pub target_inside : (p : PositionParts) (t : ℕ) → IsSetup p → p.target ≡ Some t → (16 ≤ t) × (t < 48)
target_inside p t setup is = target_by p.side (man_on p) t (explained_parts p.side (man_on p) t (setup.target t is))

-- the squares on both sides of the pawn that has passed the target t
abbrev pub AreOrigins : Colour → ℕ → ℕ → ℕ → Type 0
AreOrigins White l r t = (l + 9 ≡ t) × (r + 7 ≡ t)
AreOrigins Black l r t = (l ≡ t + 7) × (r ≡ t + 9)

origins_are : (c : Colour) (l r t : ℕ) → (c ≡ White → (l + 9 ≡ t) × (r + 7 ≡ t)) → (c ≡ Black → (l ≡ t + 7) × (r ≡ t + 9)) → AreOrigins c l r t
origins_are White l r t white black = white refl
origins_are Black l r t white black = black refl

-- the squares on both sides of the pawn that has passed the setup's target
pub record Beside (p : PositionParts) (t l r : ℕ) : Type 0 where
  pub setup : IsSetup p
  pub is : p.target ≡ Some t
  pub origins : AreOrigins p.side l r t

-- of one position under two names
pub are_beside : (p q : PositionParts) (t l r : ℕ) → q ≡ p → IsSetup p → q.target ≡ Some t → (q.side ≡ White → (l + 9 ≡ t) × (r + 7 ≡ t)) →
    (q.side ≡ Black → (l ≡ t + 7) × (r ≡ t + 9)) → Beside p t l r
are_beside p q t l r same setup is white black = record {
  setup = setup;
  is = ap (λ (s : PositionParts). s.target) (sym same) ∙ is;
  origins = subst (λ (s : PositionParts). AreOrigins s.side l r t) same (origins_are q.side l r t white black);
}

-- they are on the board, on the files beside the target's
origin_places : (c : Colour) (l r t : ℕ) → 16 ≤ t → t < 48 → AreOrigins c l r t →
    (l < 64) × (r < 64) × (file_of l ≢ file_of t) × (file_of r ≢ file_of t)
origin_places White l r t low high o = (omega arith, omega arith, λ e. omega arith, λ e. omega arith)
origin_places Black l r t low high o = (omega arith, omega arith, λ e. omega arith, λ e. omega arith)

-- where one of the two captures, the target counts
pub one_taken : (p : PositionParts) (t l r : ℕ) → Beside p t l r → (is_taken p l t ≡ true) ⊎ (is_taken p r t ≡ true) → counting_target p ≡ Some t
one_taken p t l r known one =
    let (low, high) = target_inside p t known.setup known.is in
    let (on_left, on_right, left, right) = origin_places p.side l r t low high known.origins in
    elim one [
      | inl h ↦ taken_counts p l t known.is on_left (omega arith) left h
      | inr h ↦ taken_counts p r t known.is on_right (omega arith) right h
    ]

steps_two_file : (p : PositionParts) (m : MoveParts) → steps_two p m ≡ true → file_of m.from ≡ file_of m.to
steps_two_file p m h =
    let a = and_parts _ _ h in
    let b = and_parts _ _ a.0 in
    let c = and_parts _ _ b.0 in
    let d = and_parts _ _ c.0 in
    ahead_file p.side m.from (midway m) d.1 ∙ ahead_file p.side (midway m) m.to c.1

-- a pawn that comes to another file captures
captures : (p : PositionParts) (m : MoveParts) → (steps_one p m || steps_two p m || pawn_takes p m) ≡ true → file_of m.from ≢ file_of m.to →
    leaps p.side Pawn m.from m.to ≡ true
captures p m h other =
    elim (or_cases (steps_one p m || steps_two p m) (pawn_takes p m) h) [
      | inl s ↦ elim (or_cases (steps_one p m) (steps_two p m) s) [
        | inl x ↦ absurd (other (ahead_file p.side m.from m.to (and_parts _ _ x).0))
        | inr x ↦ absurd (other (steps_two_file p m x))
      ]
      | inr x ↦ (and_parts _ _ x).0
    ]

-- on the way to the target a pawn isn't promoted
names_none : (p : PositionParts) (m : MoveParts) → is_explained p.side (man_on p) m.to ≡ true → pawn_promotion_fits p.side m ≡ true → m.promo ≡ None
names_none p m e h = none_is m.promo (rw (target_not_last p.side (man_on p) m.to e) at h)

-- a pawn on one of the two squares attacks the target, and no other pawn does
leap_origins : (c : Colour) (men : Men) (a t l r : ℕ) → Explained c men t → leaps c Pawn a t ≡ true → AreOrigins c l r t → (a ≡ l) ⊎ (a ≡ r)
unfolding leaps
leap_origins White men a t l r e h o =
    let p = and_parts (distance (file_of a) (file_of t) == 1) (rank_of t == rank_of a + 1) h in
    let beside = eqb-true (distance (file_of a) (file_of t)) 1 p.0 in
    let next = eqb-true (rank_of t) (rank_of a + 1) p.1 in
    elim (cases_eq a l) [ inl same ↦ inl same | inr other ↦ inr (omega arith) ]
leap_origins Black men a t l r e h o =
    let p = and_parts (distance (file_of a) (file_of t) == 1) (rank_of a == rank_of t + 1) h in
    let beside = eqb-true (distance (file_of a) (file_of t)) 1 p.0 in
    let next = eqb-true (rank_of a) (rank_of t + 1) p.1 in
    elim (cases_eq a l) [ inl same ↦ inl same | inr other ↦ inr (omega arith) ]

-- what a legal capture on the target is: by a pawn of the side to move, which attacks it
pub record Taking (p : PositionParts) (m : MoveParts) : Type 0 where
  pub here : man_on p m.from ≡ cell_of p.side Pawn
  pub to : p.target ≡ Some m.to
  pub promo : m.promo ≡ None
  pub leap : leaps p.side Pawn m.from m.to ≡ true

taking_by : (p : PositionParts) (m : MoveParts) (there : Option Man) → man_on p m.from ≡ there → IsSetup p → takes_target p there m ≡ true → moves_man p there m ≡ true →
    Taking p m
unfolding moves_as
taking_by p m None is setup passes moves = absurd (true≢false (sym passes))
taking_by p m (Some man) is setup passes moves =
    let a = and_parts (is_pawn man.kind && is_target p.target m.to) (not (file_of m.from == file_of m.to)) passes in
    let b = and_parts (is_pawn man.kind) (is_target p.target m.to) a.0 in
    let to = target_is p.target m.to b.1 in
    let kind = pawn_is man.kind b.0 in
    let c = and_parts (same_colour man.colour p.side) (moves_as p man.kind m) moves in
    let colour = same_is man.colour p.side c.0 in
    let d = and_parts (steps_one p m || steps_two p m || pawn_takes p m) (pawn_promotion_fits p.side m)
    (subst (λ (k : Kind). moves_as p k m ≡ true) kind c.1) in
    record {
      here = is ∙ (λ i. Some (record { colour = colour i; kind = kind i }));
      to = to;
      promo = names_none p m (setup.target m.to to) d.1;
      leap = captures p m d.0 (eqb-false (file_of m.from) (file_of m.to) (not-true _ a.1));
    }

-- and the test of its first square holds
taking_tested : (p : PositionParts) (m : MoveParts) → Taking p m → is_legal p m ≡ true → is_taken p m.from m.to ≡ true
taking_tested p m taking legal =
    let named : m ≡ move_to m.from m.to None = λ i. record { from = m.from; to = m.to; promo = taking.promo i } in
    and_from (same_man (man_on p m.from) (cell_of p.side Pawn)) (is_legal p (move_to m.from m.to None))
    (rw (taking.here, same_self p.side) refl) (subst (λ (n : MoveParts). is_legal p n ≡ true) named legal)

-- where neither of the two captures, the target doesn't count
pub not_taken : (p : PositionParts) (t l r : ℕ) → Beside p t l r → is_taken p l t ≡ false → is_taken p r t ≡ false → counting_target p ≡ None
unfolding counting_target target_counts
not_taken p t l r known no_left no_right =
    cond-false (target_counts p) p.target None (false_from_ne_true (target_counts p) (λ h.
    let (k, m, within, at, passes) = Any-from_list_any (λ (n : MoveParts). takes_target p (man_on p n.from) n) (legal_moves p) h in
    let legal = (listed_legal p m (k, within, at)).1 in
    let taking = taking_by p m (man_on p m.from) refl known.setup passes (legal_pseudo p m legal) in
    let to : m.to ≡ t = cc (taking.to, known.is) in
    let tested : is_taken p m.from t ≡ true = subst (λ (q : ℕ). is_taken p m.from q ≡ true) to (taking_tested p m taking legal) in
    let leap : leaps p.side Pawn m.from t ≡ true = subst (λ (q : ℕ). leaps p.side Pawn m.from q ≡ true) to taking.leap in
    elim (leap_origins p.side (man_on p) m.from t l r (explained_parts p.side (man_on p) t (known.setup.target t known.is)) leap known.origins) [
      | inl e ↦ true≢false (sym tested ∙ ap (λ q. is_taken p q t) e ∙ no_left)
      | inr e ↦ true≢false (sym tested ∙ ap (λ q. is_taken p q t) e ∙ no_right)
    ]))

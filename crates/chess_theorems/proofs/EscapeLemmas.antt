-- No dead position is mate: a king that is checked there has a square to go to, on its file or its rank.
use Rattle.std.proofs.Common.{◌≡◌, ◌≢◌, ℕ, ◌+◌, ◌<◌, ◌≤◌, cond, eqb, Bool, true, false, not, ◌&&◌, List, [], ◌∷◌, Option, Some, None, refl, sym, ap, subst, ◌∙◌, arith, inl, inr, count_by}
use Rattle.std.specs.List.{list_any, Contains}
use Rattle.std.proofs.lemmas.Option.{same_Some}
use Rattle.std.proofs.Math.Bool.{and-false}
use Rattle.std.proofs.lemmas.Bool.{and_parts, and_from, or_cases, or_left, cases_Bool, cases_eq, not-true, not_from_false, eqb-true, eq-eqb, ne_eqb, true≢false, false_from_ne_true, ltb-true}
use Rattle.std.proofs.lemmas.Bool.Decides.{nat_tests}
use Rattle.chess_types.specs.declared.board.man.Colour.{Colour}
use Rattle.chess_types.specs.declared.board.man.Colour.TheVariants.{White, Black}
use Rattle.chess_types.specs.declared.board.man.Kind.{Kind}
use Rattle.chess_types.specs.declared.board.man.Kind.TheVariants.{Pawn, Knight, Bishop, Rook, Queen, King}
use Rattle.chess_types.specs.declared.board.man.Man.{Man}
use Rattle.chess_types.specs.board.Board.{Board, Men, man_at}
use Rattle.chess_types.specs.board.Squares.{squares}
use Rattle.chess_types.specs.board.Men.{opponent, same_colour, is_king, is_of, is_king_of, count_squares, kings_of, men_of}
use Rattle.chess_types.specs.board.MoveParts.{MoveParts}
use Rattle.chess_types.specs.board.Attack.{leaps, slides, slides_to, attacks_as, attacks_for, is_attacked, in_check}
use Rattle.chess_types.specs.board.Position.{PositionParts, IsSetup, IsWellFormed, man_on}
use Rattle.chess_types.specs.board.Pseudo.{moves_as, moves_man, is_pseudo}
use Rattle.chess_types.specs.board.After.{after}
use Rattle.chess_types.specs.board.Lines.{play}
use Rattle.chess_types.specs.board.Legal.{is_legal, legal_moves}
use Rattle.chess_types.specs.board.Outcome.{is_without}
use Rattle.chess_types.specs.board.Dead.{is_other, holds_bishop, holds_minor, is_dead}
use Rattle.chess_types.proofs.Runs.{list_any_at, list_any_from}
use Rattle.chess_types.proofs.Sums.{bit, total, total-add, total-agree, total-at, total-one, sum_by-range}
use Rattle.chess_types.proofs.SameLemmas.{same_self, same_is, kind_is}
use Rattle.chess_types.proofs.MoveLemmas.{leaps_self}
use Rattle.chess_attack.proofs.Kings.{no_king}
use Rattle.chess_attack.proofs.KingSteps.{check_there}
use Rattle.chess_attack.proofs.Lifted.{OnlyKing, only_king, not_attacked, check_from, no_check}
use Rattle.chess_play.proofs.Facts.{never}
use Rattle.chess_play.proofs.Setups.{setup_after_move}
use Rattle.chess_moves.proofs.LegalLaws.{legal_listed}
use Rattle.chess_theorems.specs.DeadLaws.{AreListed, is_mate}
use Rattle.chess_theorems.proofs.SquareColours.{tone, beside, bishop_tone, knight_tone, escapes, escape}
use Rattle.chess_theorems.proofs.ListedLemmas.{listed_some, stays_well, twice}
use Rattle.chess_theorems.proofs.DeadLemmas.{IsLone, IsBishops, dead_is, lone_dead, dead_stays, now_here, now_gone, now_there}

-- a test that some square meets
found : (test : ℕ → Bool) → list_any test squares ≡ true → (t : ℕ) × (t < 64) × (test t ≡ true)
unfolding squares
found test h = let (t, low, high, e) = list_any_at test 0 64 h in (t, omega arith, e)

met : (test : ℕ → Bool) (s : ℕ) → s < 64 → test s ≡ true → list_any test squares ≡ true
unfolding squares
met test s inside e = list_any_from test 0 64 s (omega arith) (omega arith) e

-- where the king of a colour stands
pub king_of : (board : Board) (c : Colour) → kings_of board c ≡ 1 → (k : ℕ) × OnlyKing (man_at board) c k
king_of board c one =
    let test : ℕ → Bool = λ s. is_king_of c (man_at board s) in
    elim (cases_Bool (list_any test squares)) [
      | inl h ↦
          let (k, inside, here) : (k : ℕ) × (k < 64) × (test k ≡ true) = found test h in
          (k, only_king board c k one inside here)
      | inr none ↦ absurd (no_king board c one (λ s inside. false_from_ne_true _ (λ e. true≢false (sym (met test s inside e) ∙ none))))
    ]

-- some man attacks an attacked square
pub attacker : (men : Men) (c : Colour) (s : ℕ) → is_attacked men c s ≡ true → (a : ℕ) × (a < 64) × (attacks_for (men a) c men a s ≡ true)
attacker men c s h =
    let test : ℕ → Bool = λ a. attacks_for (men a) c men a s in
    elim (cases_Bool (list_any test squares)) [
      | inl some ↦ found test some
      | inr none ↦
          absurd (true≢false (sym h ∙ not_attacked men c s (λ a inside. false_from_ne_true _ (λ e. true≢false (sym (met test a inside e) ∙ none)))))
    ]

-- the other colour is another one
other_colour : (c : Colour) → same_colour c (opponent c) ≡ false
other_colour White = refl
other_colour Black = refl

-- each colour is the one or the other
one_or_other : (d c : Colour) → same_colour d c ≡ false → same_colour d (opponent c) ≡ true
one_or_other White White h = never (sym h)
one_or_other White Black h = refl
one_or_other Black White h = refl
one_or_other Black Black h = never (sym h)

-- a man who is a king of the colour
pub king_is : (c : Colour) (there : Option Man) → is_king_of c there ≡ true → there ≡ Some (record { colour = c; kind = King })
king_is c None h = never h
king_is c (Some man) h =
    let a = and_parts _ _ h in
    let colour : man.colour ≡ c = same_is man.colour c a.0 in
    let kind : man.kind ≡ King = king man.kind a.1 in
    λ i. Some (record { colour = colour i; kind = kind i })
  where
    king : (k : Kind) → is_king k ≡ true → k ≡ King
    king King h = refl
    king Pawn h = never h
    king Knight h = never h
    king Bishop h = never h
    king Rook h = never h
    king Queen h = never h

-- what stands on a square is nothing, a king, or another man
data Stands (c : Colour) (there : Option Man) : Type 0 where
  Nothing : there ≡ None → Stands c there
  Own : is_king_of c there ≡ true → Stands c there
  Theirs : is_king_of (opponent c) there ≡ true → Stands c there
  Another : is_other there ≡ true → Stands c there

stands : (c : Colour) (there : Option Man) → Stands c there
stands c None = Nothing refl
stands c (Some man) =
    elim (cases_Bool (is_king man.kind)) [
      | inr other ↦ Another (not_from_false _ other)
      | inl king ↦ elim (cases_Bool (same_colour man.colour c)) [
        | inl mine ↦ Own (and_from _ _ mine king)
        | inr theirs ↦ Theirs (and_from _ _ (one_or_other man.colour c theirs) king)
      ]
    ]

-- a king attacks the squares beside it alone
pub king_reach : (d : Colour) (f : Men) (a b : ℕ) → attacks_as (record { colour = d; kind = King }) f a b ≡ beside a b
unfolding attacks_as leaps slides_to slides
king_reach d f a b = grind (arith, nat_tests)

beside_back : (a b : ℕ) → beside a b ≡ beside b a
unfolding leaps
beside_back a b = grind (arith, nat_tests)

-- a knight's square is never beside the one that it attacks
knight_apart : (c : Colour) (a b : ℕ) → leaps c Knight a b ≡ true → beside b a ≡ false
unfolding leaps
knight_apart c a b h = grind (arith, nat_tests, h)

-- a bishop attacks along diagonals alone, a knight by its leap
bishop_reach : (man : Man) (f : Men) (a b : ℕ) → man.kind ≡ Bishop → attacks_as man f a b ≡ true → slides_to Bishop a b ≡ true
unfolding attacks_as leaps
bishop_reach man f a b kind h =
    let g : attacks_as (record { colour = man.colour; kind = Bishop }) f a b ≡ true =
    subst (λ (k : Kind). attacks_as (record { colour = man.colour; kind = k }) f a b ≡ true) kind h in
    (and_parts _ _ g).0

knight_reach : (man : Man) (f : Men) (a b : ℕ) → man.kind ≡ Knight → attacks_as man f a b ≡ true → leaps man.colour Knight a b ≡ true
unfolding attacks_as leaps slides_to slides
knight_reach man f a b kind h =
    let g : attacks_as (record { colour = man.colour; kind = Knight }) f a b ≡ true =
    subst (λ (k : Kind). attacks_as (record { colour = man.colour; kind = k }) f a b ≡ true) kind h in
    grind (arith, nat_tests, g)

-- of at most one square that passes a test, two are the same
pub alone : (test : ℕ → Bool) → count_by test squares ≤ 1 → (a b : ℕ) → a < 64 → b < 64 → test a ≡ true → test b ≡ true → a ≡ b
unfolding squares
alone test few a b ha hb at_a at_b =
    elim (cases_eq a b) [
      | inl same ↦ same
      | inr other ↦
          let f : ℕ → ℕ = λ s. bit (test s) in
          let g : ℕ → ℕ = λ s. cond (eqb s a) 0 (f s) in
          let one : f a ≡ 1 = ap bit at_a in
          let none : g a ≡ 0 = rw (eq-eqb a a refl) refl in
          let still : g b ≡ 1 = rw (ne_eqb b a (λ e. other (sym e))) (ap bit at_b) in
          let less : total f 0 64 + g a ≡ total g 0 64 + f a =
          total-one f g a 0 64 (omega arith) (omega arith) (λ x low high away. sym (rw (ne_eqb x a away) refl)) in
          let more : g b ≤ total g 0 64 = total-at g b 0 64 (omega arith) (omega arith) in
          absurd (omega (arith, sum_by-range f 0 64))
    ]

-- who attacks for a colour
pub attacking : (there : Option Man) (c : Colour) (f : Men) (a s : ℕ) → attacks_for there c f a s ≡ true →
    (man : Man) × (there ≡ Some man) × (man.colour ≡ c) × (attacks_as man f a s ≡ true)
attacking None c f a s h = never h
attacking (Some man) c f a s h = let x = and_parts _ _ h in (man, refl, same_is man.colour c x.0, x.1)

bishop_kind : (man : Man) → holds_bishop (Some man) ≡ true → man.kind ≡ Bishop
bishop_kind man h = kind_is man.kind Bishop h

-- The other men leave a square alone: none is on it, and none attacks it, whatever is on the other squares.
record Leave (men : Men) (e : ℕ) : Type 0 where
  away : (a : ℕ) → a < 64 → is_other (men a) ≡ true → a ≢ e
  harmless : (a : ℕ) → a < 64 → (man : Man) → men a ≡ Some man → is_other (Some man) ≡ true → (f : Men) → attacks_as man f a e ≡ false

-- bishops on the squares of one colour leave those of the other alone
bishops_leave : (men : Men) (xray_squares e : ℕ) → e < 64 → IsBishops men xray_squares → tone e ≢ xray_squares → Leave men e
bishops_leave men xray_squares e inside one other = record {
  away = λ a ha is same. other (ap tone (sym same) ∙ one.alike a ha is);
  harmless = λ a ha man here is f. false_from_ne_true _ (λ h.
      let there : is_other (men a) ≡ true = ap is_other here ∙ is in
      let kind : man.kind ≡ Bishop = bishop_kind man (sym (ap holds_bishop here) ∙ one.bishops a ha there) in
      other (sym (bishop_tone a e ha inside (bishop_reach man f a e kind h)) ∙ one.alike a ha there));
}

-- so does a lone man who attacks a square beside it of the other colour
lone_leaves : (men : Men) (k e a : ℕ) (man : Man) → k < 64 → e < 64 → a < 64 → IsLone men → men a ≡ Some man → is_other (Some man) ≡ true →
    attacks_as man men a k ≡ true → beside k e ≡ true → tone k + tone e ≡ 1 → Leave men e
lone_leaves men k e a man hk he ha lone here is attacks near tones =
    let there : is_other (men a) ≡ true = ap is_other here ∙ is in
    let only : (b : ℕ) → b < 64 → is_other (men b) ≡ true → a ≡ b = λ b hb at_b. alone (λ s. is_other (men s)) lone.few a b ha hb there at_b in
    let its : (b : ℕ) (other : Man) → a ≡ b → men b ≡ Some other → other ≡ man =
    λ b other same at_b. same_Some other man (sym at_b ∙ ap men (sym same) ∙ here) in
    elim (or_cases _ _ (sym (ap holds_minor here) ∙ lone.minors a ha there)) [
      | inl bishop ↦
          let kind : man.kind ≡ Bishop = kind_is man.kind Bishop bishop in
          let same_tone : tone a ≡ tone k = bishop_tone a k ha hk (bishop_reach man men a k kind attacks) in
          record {
            away = λ b hb at_b same. let t : tone a ≡ tone e = ap tone (only b hb at_b ∙ same) in omega arith;
            harmless = λ b hb other at_b is_b f. false_from_ne_true _ (λ h.
                let same : a ≡ b = only b hb (ap is_other at_b ∙ is_b) in
                let g : attacks_as man f a e ≡ true =
                subst (λ (x : Man). attacks_as x f a e ≡ true) (its b other same at_b) (subst (λ (x : ℕ). attacks_as other f x e ≡ true) (sym same) h) in
                let t : tone a ≡ tone e = bishop_tone a e ha he (bishop_reach man f a e kind g) in
                omega arith);
          }
      | inr knight ↦
          let kind : man.kind ≡ Knight = kind_is man.kind Knight knight in
          let leap : leaps man.colour Knight a k ≡ true = knight_reach man men a k kind attacks in
          let other_tone : tone a + tone k ≡ 1 = knight_tone man.colour a k ha hk leap in
          record {
            away = λ b hb at_b same.
                let t : a ≡ e = only b hb at_b ∙ same in
                true≢false (sym near ∙ ap (beside k) (sym t) ∙ knight_apart man.colour a k leap);
            harmless = λ b hb other at_b is_b f. false_from_ne_true _ (λ h.
                let same : a ≡ b = only b hb (ap is_other at_b ∙ is_b) in
                let g : attacks_as man f a e ≡ true =
                subst (λ (x : Man). attacks_as x f a e ≡ true) (its b other same at_b) (subst (λ (x : ℕ). attacks_as other f x e ≡ true) (sym same) h) in
                let t : tone a + tone e ≡ 1 = knight_tone man.colour a e ha he (knight_reach man f a e kind g) in
                omega arith);
          }
    ]

-- A king in check on a dead position: where the two kings are, and where the one in check may go.
record Flight (p : PositionParts) (k j e : ℕ) : Type 0 where
  own : OnlyKing (man_on p) p.side k
  theirs : OnlyKing (man_on p) (opponent p.side) j
  inside : e < 64
  near : beside k e ≡ true
  far : beside j e ≡ false
  apart : j ≢ e
  leave : Leave (man_on p) e

-- two kings of different colours stand on two squares
kings_apart : (c : Colour) (there : Option Man) → is_king_of c there ≡ true → is_king_of (opponent c) there ≡ true → ⊥
kings_apart c there h g =
    let e : there ≡ Some (record { colour = c; kind = King }) = king_is c there h in
    let x = and_parts _ _ (sym (ap (is_king_of (opponent c)) e) ∙ g) in
    true≢false (sym x.0 ∙ other_colour c)

-- The other side's king isn't beside the king of the side to move: it would be in check itself.
pub kings_far : (p : PositionParts) (k j : ℕ) → IsWellFormed p → OnlyKing (man_on p) p.side k → OnlyKing (man_on p) (opponent p.side) j → beside j k ≡ false
kings_far p k j well own theirs =
    let c : Colour = p.side in
    let men : Men = man_on p in
    let quiet : in_check men (opponent c) ≡ false = well.quiet in
    false_from_ne_true _ (λ h.
    let mine : men k ≡ Some (record { colour = c; kind = King }) = king_is c (men k) own.here in
    let attacks : attacks_for (men k) (opponent (opponent c)) men k j ≡ true =
    ap (λ o. attacks_for o (opponent (opponent c)) men k j) mine
    ∙ and_from _ _ (ap (same_colour c) (twice c) ∙ same_self c) (king_reach c men k j ∙ beside_back k j ∙ h) in
    true≢false (sym (check_from men (opponent c) j k theirs own.on_board attacks) ∙ quiet))

flight : (p : PositionParts) → IsWellFormed p → is_dead p ≡ true → in_check (man_on p) p.side ≡ true → (k : ℕ) × (j : ℕ) × (e : ℕ) × Flight p k j e
flight p well dead checked =
    let c : Colour = p.side in
    let men : Men = man_on p in
    let (k, own) : (k : ℕ) × OnlyKing men c k = king_of p.placement c (well.setup.kings c) in
    let (j, theirs) : (j : ℕ) × OnlyKing men (opponent c) j = king_of p.placement (opponent c) (well.setup.kings (opponent c)) in
    let apart : k ≢ j = λ same. kings_apart c (men k) own.here (ap (λ s. is_king_of (opponent c) (men s)) same ∙ theirs.here) in
    let far : beside j k ≡ false = kings_far p k j well own theirs in
    let (e, escaped) : (e : ℕ) × (escapes k j e ≡ true) = escape k j own.on_board theirs.on_board apart far in
    let a = and_parts _ _ escaped in
    let b = and_parts _ _ a.0 in
    let d = and_parts _ _ b.0 in
    let f = and_parts _ _ d.0 in
    let inside : e < 64 = ltb-true e 64 f.0 in
    let tones : tone k + tone e ≡ 1 = eqb-true _ _ a.1 in
    -- the man who gives check
    let (x, hx, attack) : (x : ℕ) × (x < 64) × (attacks_for (men x) (opponent c) men x k ≡ true) =
    attacker men (opponent c) k (sym (check_there men c k own) ∙ checked) in
    let (man, here, colour, attacks) : (man : Man) × (men x ≡ Some man) × (man.colour ≡ opponent c) × (attacks_as man men x k ≡ true) =
    attacking (men x) (opponent c) men x k attack in
    let no_king : is_king man.kind ≡ false = false_from_ne_true _ (λ king.
    let at_x : is_king_of (opponent c) (men x) ≡ true =
    ap (is_king_of (opponent c)) here ∙ and_from _ _ (ap (λ d. same_colour d (opponent c)) colour ∙ same_self (opponent c)) king in
    let same : x ≡ j = theirs.only x hx at_x in
    let is : Some man ≡ Some (record { colour = opponent c; kind = King }) = sym here ∙ king_is (opponent c) (men x) at_x in
    let man_is : man ≡ record { colour = opponent c; kind = King } = same_Some man (record { colour = opponent c; kind = King }) is in
    let beside_x : beside x k ≡ true = sym (king_reach (opponent c) men x k) ∙ sym (ap (λ m. attacks_as m men x k) man_is) ∙ attacks in
    true≢false (sym beside_x ∙ ap (λ s. beside s k) same ∙ far)) in
    let other : is_other (Some man) ≡ true = not_from_false _ no_king in
    let leave : Leave men e =
    elim (dead_is p dead) [
      | inl lone ↦ lone_leaves men k e x man own.on_board inside hx lone here other attacks f.1 tones
      | inr one ↦
          let there : is_other (men x) ≡ true = ap is_other here ∙ other in
          let kind : man.kind ≡ Bishop = bishop_kind man (sym (ap holds_bishop here) ∙ one.1.bishops x hx there) in
          let of_king : tone k ≡ one.0 = sym (bishop_tone x k hx own.on_board (bishop_reach man men x k kind attacks)) ∙ one.1.alike x hx there in
          bishops_leave men one.0 e inside one.1 (λ same. omega arith)
    ] in (
      k,
      j,
      e,
      record {
        own = own;
        theirs = theirs;
        inside = inside;
        near = f.1;
        far = not-true _ d.1;
        apart = λ same. true≢false (sym (eq-eqb j e same) ∙ not-true _ b.1);
        leave = leave;
      },
    )

module _ (p : PositionParts) (k j e : ℕ) (well : IsWellFormed p) (dead : is_dead p ≡ true) (way : Flight p k j e) where
  abbrev king : Man
  king = record { colour = p.side; kind = King }

  abbrev go : MoveParts
  go = record { from = k; to = e; promo = None }

  here : man_on p k ≡ Some (record { colour = p.side; kind = King })
  here = king_is p.side (man_on p k) way.own.here

  leaves : e ≢ k
  leaves same = true≢false (sym way.near ∙ ap (beside k) same ∙ leaps_self White King k)

  -- nobody is on the square
  free : man_on p e ≡ None
  free = elim (stands p.side (man_on p e)) [
    | Nothing none ↦ none
    | Own own ↦ absurd (leaves (way.own.only e way.inside own))
    | Theirs theirs ↦ absurd (way.apart (sym (way.theirs.only e way.inside theirs)))
    | Another other ↦ absurd (way.leave.away e way.inside other refl)
  ]

  goes : moves_as p King (record { from = k; to = e; promo = None }) ≡ true
  unfolding moves_as
  goes = and_from _ _ (or_left _ _ (or_left _ _ (and_from _ _ (king_reach p.side (man_on p) k e ∙ way.near) (rw free refl)))) refl

  pseudo : is_pseudo p (record { from = k; to = e; promo = None }) ≡ true
  pseudo = ap (λ o. moves_man p o (record { from = k; to = e; promo = None })) here ∙ and_from _ _ (same_self p.side) goes

  setup_then : IsSetup (after p (record { from = k; to = e; promo = None }))
  setup_then = setup_after_move p (record { from = k; to = e; promo = None }) well.setup way.own.on_board way.inside pseudo

  king_then : man_on (after p (record { from = k; to = e; promo = None })) e ≡ Some (record { colour = p.side; kind = King })
  king_then =
      now_here p (record { from = k; to = e; promo = None }) (record { colour = p.side; kind = King }) well.setup way.own.on_board way.inside here pseudo dead

  -- no man of the other side attacks it afterwards
  unattacked : (a : ℕ) → a < 64 → attacks_for (man_on (after p go) a) (opponent p.side) (man_on (after p go)) a e ≡ false
  unattacked a ha =
      let men : Men = man_on (after p go) in
      elim (cases_eq a e) [
        | inl same ↦
            ap (λ o. attacks_for o (opponent p.side) men a e) (ap men same ∙ king_then) ∙ rw (other_colour p.side) refl
        | inr other ↦ elim (cases_eq a k) [
          | inl same ↦
              ap (λ o. attacks_for o (opponent p.side) men a e)
              (ap men same ∙ now_gone p go king well.setup way.own.on_board way.inside here pseudo dead)
          | inr away ↦
              let as_before : men a ≡ man_on p a = now_there p go king well.setup way.own.on_board way.inside here pseudo dead a away other in
              elim (stands p.side (man_on p a)) [
                | Nothing none ↦ ap (λ o. attacks_for o (opponent p.side) men a e) (as_before ∙ none)
                | Own own ↦ absurd (away (way.own.only a ha own))
                | Theirs theirs ↦
                    ap (λ o. attacks_for o (opponent p.side) men a e) (as_before ∙ king_is (opponent p.side) (man_on p a) theirs)
                    ∙ rw (same_self (opponent p.side), king_reach (opponent p.side) men a e, ap (λ s. beside s e) (way.theirs.only a ha theirs), way.far) refl
                | Another is ↦ false_from_ne_true _ (λ h.
                    let (man, at_a, colour, attacks) = attacking (men a) (opponent p.side) men a e h in
                    let before : man_on p a ≡ Some man = sym as_before ∙ at_a in
                    true≢false (sym attacks ∙ way.leave.harmless a ha man before (sym (ap is_other before) ∙ is) men))
              ]
        ]
      ]

  legal : is_legal p go ≡ true
  unfolding is_legal
  legal =
      let own : OnlyKing (man_on (after p go)) p.side e =
      only_king (after p go).placement p.side e (setup_then.kings p.side) way.inside
      (ap (is_king_of p.side) king_then ∙ and_from _ _ (same_self p.side) refl) in
      and_from _ _ pseudo
      (not_from_false _ (no_check (man_on (after p go)) p.side e own (not_attacked (man_on (after p go)) (opponent p.side) e unattacked)))

  has_move : Contains (legal_moves p) go
  has_move = legal_listed p go (record { from = way.own.on_board; to = way.inside }) legal

-- no dead position is mate
pub dead_no_mate : (p : PositionParts) → IsWellFormed p → is_dead p ≡ true → is_mate p ≡ false
dead_no_mate p well dead =
    elim (cases_Bool (in_check (man_on p) p.side)) [
      | inr safe ↦ rw safe (and-false (is_without (legal_moves p)))
      | inl checked ↦
          let (k, j, e, way) = flight p well dead checked in
          rw (listed_some (legal_moves p) (record { from = k; to = e; promo = None }) (has_move p k j e well dead way)) refl
    ]

-- nor is any that legal moves lead to
pub dead_forever : (p : PositionParts) (moves : List MoveParts) → IsWellFormed p → is_dead p ≡ true → AreListed p moves → is_mate (play p moves) ≡ false
dead_forever p [] well dead h = dead_no_mate p well dead
dead_forever p (m ∷ moves) well dead h =
    dead_forever (after p m) moves (stays_well p m well h.0) (dead_stays p m well h.0 dead) h.1

-- each man is a king or another
sorts : (there : Option Man) →
    bit (is_of White there) + bit (is_of Black there) ≡ bit (is_king_of White there) + bit (is_king_of Black there) + bit (is_other there)
sorts None = refl
sorts (Some man) = sort man.colour man.kind
  where
    sort : (c : Colour) (k : Kind) →
        bit (same_colour c White) + bit (same_colour c Black) ≡ bit (same_colour c White && is_king k) + bit (same_colour c Black && is_king k) + bit (not (is_king k))
    sort White King = refl
    sort Black King = refl
    sort White _ = refl
    sort Black _ = refl

pub two_kings : (p : PositionParts) → IsWellFormed p → men_of p.placement White ≡ 1 → men_of p.placement Black ≡ 1 → is_dead p ≡ true
unfolding count_squares squares
two_kings p well white black =
    let men : Men = man_on p in
    let w : ℕ → ℕ = λ s. bit (is_of White (men s)) in
    let b : ℕ → ℕ = λ s. bit (is_of Black (men s)) in
    let kw : ℕ → ℕ = λ s. bit (is_king_of White (men s)) in
    let kb : ℕ → ℕ = λ s. bit (is_king_of Black (men s)) in
    let o : ℕ → ℕ = λ s. bit (is_other (men s)) in
    let e : total (λ s. w s + b s) 0 64 ≡ total (λ s. (kw s + kb s) + o s) 0 64 = total-agree (λ s. w s + b s) (λ s. (kw s + kb s) + o s) 0 64 (λ s low high. sorts (men s)) in
    let none : total o 0 64 ≡ 0 =
    omega (
      arith,
      e,
      total-add w b 0 64,
      total-add (λ s. kw s + kb s) o 0 64,
      total-add kw kb 0 64,
      sum_by-range w 0 64,
      sum_by-range b 0 64,
      sum_by-range kw 0 64,
      sum_by-range kb 0 64,
      white,
      black,
      well.setup.kings White,
      well.setup.kings Black,
    ) in
    lone_dead p (record {
      minors = λ s inside is. absurd (let one : o s ≡ 1 = ap bit is in omega (arith, total-at o s 0 64 (omega arith) inside));
      few = omega (arith, none, sum_by-range o 0 64);
    })

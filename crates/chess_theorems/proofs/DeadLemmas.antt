-- What the list of dead positions says of each man, and that a legal move keeps it.
use Rattle.std.proofs.Common.{◌⊎◌, ◌≡◌, ◌≢◌, ℕ, ◌<◌, ◌≤◌, nat_le, Bool, true, false, not, ◌||◌, length, Option, Some, None, refl, sym, ap, subst, ◌∙◌, arith, inl, inr, count_by}
use Rattle.std.specs.List.{list_all, Contains}
use Rattle.std.proofs.lemmas.List.Sums.{length-filter}
use Rattle.std.proofs.lemmas.Bool.{and_parts, and_from, or_cases, or_left, or_right, cases_eq, eqb-true, eq-eqb, true≢false, false_from_ne_true, le-leb, leb-true}
use Rattle.std.proofs.lemmas.Bool.Decides.{nat_tests}
use Rattle.chess_types.specs.declared.board.man.Kind.{Kind}
use Rattle.chess_types.specs.declared.board.man.Kind.TheVariants.{Pawn, Knight, Bishop, Rook}
use Rattle.chess_types.specs.declared.board.man.Man.{Man}
use Rattle.chess_types.specs.declared.board.position.Wing.{Wing}
use Rattle.chess_types.specs.declared.board.position.Wing.TheVariants.{KingSide, QueenSide}
use Rattle.chess_types.specs.board.Board.{Men, man_at}
use Rattle.chess_types.specs.board.Squares.{squares}
use Rattle.chess_types.specs.board.Men.{same_kind, is_king, is_pawn, count_squares}
use Rattle.chess_types.specs.board.MoveParts.{MoveParts}
use Rattle.chess_types.specs.board.Attack.{leaps, slides_to, attacks_as}
use Rattle.chess_types.specs.board.Position.{PositionParts, IsSetup, IsWellFormed, man_on, rook_home}
use Rattle.chess_types.specs.board.Pseudo.{moves_as, moves_man, is_pseudo}
use Rattle.chess_types.specs.board.After.{after, after_by, moved_man, captured_at, is_castling, moved_board}
use Rattle.chess_types.specs.board.Legal.{legal_moves}
use Rattle.chess_types.specs.board.Dead.{is_other, holds_bishop, holds_minor, is_light, others, is_dead}
use Rattle.chess_types.proofs.Runs.{list_all_at, list_all_from}
use Rattle.chess_types.proofs.Sums.{bit}
use Rattle.chess_types.proofs.SameLemmas.{kind_is}
use Rattle.chess_types.proofs.MoveLemmas.{legal_pseudo, pseudo_man}
use Rattle.chess_play.proofs.Facts.{Facts, facts, never}
use Rattle.chess_play.proofs.CastlingSquares.{castling_parts, rook_inside}
use Rattle.chess_play.proofs.Carried.{carried_census, carried_here, carried_from, carried_there}
use Rattle.chess_moves.proofs.GuardLemmas.{list_all-filter}
use Rattle.chess_moves.proofs.LegalLaws.{listed_legal}
use Rattle.chess_theorems.proofs.SquareColours.{tone, bishop_tone}

-- a test of the other men, man by man
others_each : (q : ℕ → Bool) (men : Men) → list_all q (others men) ≡ true → (s : ℕ) → s < 64 → is_other (men s) ≡ true → q s ≡ true
unfolding squares
others_each q men h s inside other =
    let t : (not (is_other (men s)) || q s) ≡ true =
    list_all_at (λ a. not (is_other (men a)) || q a) 0 64 s (sym (list_all-filter q (λ a. is_other (men a)) squares) ∙ h) (omega arith) (omega arith) in
    sym (rw other refl) ∙ t

-- and back
each_other : (q : ℕ → Bool) (men : Men) → ((s : ℕ) → s < 64 → is_other (men s) ≡ true → q s ≡ true) → list_all q (others men) ≡ true
unfolding squares
each_other q men h =
    list_all-filter q (λ a. is_other (men a)) squares
    ∙ list_all_from (λ a. not (is_other (men a)) || q a) 0 64 (λ s low high. either (is_other (men s)) (q s) (h s (omega arith)))
  where
    either : (x y : Bool) → (x ≡ true → y ≡ true) → (not x || y) ≡ true
    either true y f = f refl
    either false y f = refl

-- beside the kings at most one man, a knight or a bishop
pub record IsLone (men : Men) : Type 0 where
  pub minors : (s : ℕ) → s < 64 → is_other (men s) ≡ true → holds_minor (men s) ≡ true
  pub few : count_by (λ s. is_other (men s)) squares ≤ 1

-- beside the kings bishops alone, on squares of one colour
pub record IsBishops (men : Men) (xray_squares : ℕ) : Type 0 where
  pub bishops : (s : ℕ) → s < 64 → is_other (men s) ≡ true → holds_bishop (men s) ≡ true
  pub alike : (s : ℕ) → s < 64 → is_other (men s) ≡ true → tone s ≡ xray_squares

light_tone : (s : ℕ) → is_light s ≡ true → tone s ≡ 1
light_tone s h = eqb-true _ _ h

dark_tone : (s : ℕ) → not (is_light s) ≡ true → tone s ≡ 0
dark_tone s h = grind (arith, nat_tests, h)

-- what the list says
pub dead_is : (p : PositionParts) → is_dead p ≡ true → IsLone (man_on p) ⊎ ((xray_squares : ℕ) × IsBishops (man_on p) xray_squares)
unfolding is_dead
dead_is p h =
    let men : Men = man_on p in
    elim (or_cases _ _ h) [
      | inl lone ↦
          let a : (list_all (λ s. holds_minor (men s)) (others men) ≡ true) × (nat_le (length (others men)) 1 ≡ true) = and_parts _ _ lone in
          inl (record {
            minors = others_each (λ s. holds_minor (men s)) men a.0;
            few = omega (arith, length-filter (λ s. is_other (men s)) squares, leb-true _ _ a.1);
          })
      | inr one ↦
          let a : (list_all (λ s. holds_bishop (men s)) (others men) ≡ true) × ((list_all is_light (others men) || list_all (λ s. not (is_light s)) (others men)) ≡ true) =
          and_parts _ _ one in
          elim (or_cases _ _ a.1) [
            | inl light ↦ inr (
              1,
              record {
                bishops = others_each (λ s. holds_bishop (men s)) men a.0;
                alike = λ s inside other. light_tone s (others_each is_light men light s inside other);
              },
            )
            | inr dark ↦ inr (
              0,
              record {
                bishops = others_each (λ s. holds_bishop (men s)) men a.0;
                alike = λ s inside other. dark_tone s (others_each (λ x. not (is_light x)) men dark s inside other);
              },
            )
          ]
    ]

-- a man other than a king is a knight or a bishop
bishop_minor : (there : Option Man) → holds_bishop there ≡ true → holds_minor there ≡ true
bishop_minor None h = h
bishop_minor (Some man) h = or_left _ _ h

pub dead_minors : (p : PositionParts) → is_dead p ≡ true → (s : ℕ) → s < 64 → is_other (man_on p s) ≡ true → holds_minor (man_on p s) ≡ true
dead_minors p dead s inside other =
    elim (dead_is p dead) [
      | inl lone ↦ lone.minors s inside other
      | inr one ↦ bishop_minor (man_on p s) (one.1.bishops s inside other)
    ]

-- and who says so puts the position on the list
pub lone_dead : (p : PositionParts) → IsLone (man_on p) → is_dead p ≡ true
unfolding is_dead
lone_dead p lone =
    let men : Men = man_on p in
    or_left _ _ (and_from _ _ (each_other (λ s. holds_minor (men s)) men lone.minors)
    (le-leb _ _ (omega (arith, length-filter (λ s. is_other (men s)) squares, lone.few))))

tone_light : (s : ℕ) → tone s ≡ 1 → is_light s ≡ true
tone_light s h = eq-eqb _ _ h

tone_dark : (s xray_squares : ℕ) → xray_squares ≢ 1 → tone s ≡ xray_squares → not (is_light s) ≡ true
tone_dark s xray_squares other h = grind (arith, nat_tests, h, other)

pub bishops_dead : (p : PositionParts) (xray_squares : ℕ) → IsBishops (man_on p) xray_squares → is_dead p ≡ true
unfolding is_dead
bishops_dead p xray_squares one =
    let men : Men = man_on p in
    or_right _ _ (and_from _ _ (each_other (λ s. holds_bishop (men s)) men one.bishops)
    (elim (cases_eq xray_squares 1) [
      | inl light ↦ or_left _ _ (each_other is_light men (λ s inside other. tone_light s (one.alike s inside other ∙ light)))
      | inr dark ↦ or_right _ _ (each_other (λ s. not (is_light s)) men (λ s inside other. tone_dark s xray_squares dark (one.alike s inside other)))
    ]))

-- a bishop that moves goes along a diagonal
bishop_goes : (p : PositionParts) (m : MoveParts) (there : Option Man) → moves_man p there m ≡ true → holds_bishop there ≡ true → slides_to Bishop m.from m.to ≡ true
unfolding moves_as attacks_as leaps
bishop_goes p m None h is = never h
bishop_goes p m (Some man) h is =
    let parts : (_ ≡ true) × (moves_as p man.kind m ≡ true) = and_parts _ _ h in
    let kind : man.kind ≡ Bishop = kind_is man.kind Bishop is in
    let goes : moves_as p Bishop m ≡ true = subst (λ (k : Kind). moves_as p k m ≡ true) kind parts.1 in
    let a = and_parts _ _ goes in
    let b = and_parts _ _ a.0 in
    let c = and_parts _ _ b.0 in
    c.0

module _ (p : PositionParts) (m : MoveParts) (man : Man) (setup : IsSetup p) (from : m.from < 64) (to : m.to < 64) (here : man_on p m.from ≡ Some man) (pseudo : is_pseudo p m ≡ true)
    (dead : is_dead p ≡ true) where
  its : Facts p man m
  its = facts p m setup from to man here pseudo

  -- no rook is left, so nobody castles
  no_castling : (w : Wing) → is_castling man w m ≡ false
  no_castling w = false_from_ne_true _ (λ h.
      let rook : man_on p (rook_home p.side w) ≡ Some (record { colour = p.side; kind = Rook }) =
      setup.rook_at_home p.side w (castling_parts p w m (its.castling w h)).right in
      true≢false (sym (dead_minors p dead (rook_home p.side w) (rook_inside p.side w) (ap is_other rook)) ∙ ap holds_minor rook))

  -- no pawn is left
  no_pawn : is_pawn man.kind ≡ false
  no_pawn = kinds man.kind refl
    where
      kinds : (k : Kind) → man.kind ≡ k → is_pawn k ≡ false
      kinds Pawn e =
          never (sym (ap holds_minor here ∙ ap (λ k. same_kind k Bishop || same_kind k Knight) e)
          ∙ dead_minors p dead m.from from (ap is_other here ∙ ap (λ k. not (is_king k)) e))
      kinds _ e = refl

  -- so the captured man, if there is one, stands on the last square, and the mover stays what he is
  plainly : captured_at p.target man m ≡ m.to
  plainly = rw no_pawn refl

  stays_man : moved_man man m.promo ≡ man
  stays_man = its.same no_pawn

  placed : man_on (after p m) ≡ man_at (moved_board p man m)
  unfolding after
  placed = ap (λ o. man_on (after_by p o m)) here ∙ rw (no_castling KingSide, no_castling QueenSide) refl

  pub now_here : man_on (after p m) m.to ≡ Some man
  now_here = (λ i. placed i m.to) ∙ carried_here p man m from to its ∙ ap (λ x. Some x) stays_man

  -- he has left the first square
  pub now_gone : man_on (after p m) m.from ≡ None
  now_gone = (λ i. placed i m.from) ∙ carried_from p man m from to its

  -- and the others are as before
  pub now_there : (s : ℕ) → s ≢ m.from → s ≢ m.to → man_on (after p m) s ≡ man_on p s
  now_there s away other = (λ i. placed i s) ∙ carried_there p man m from to its s away other (λ e. other (e ∙ plainly))

  -- who isn't the mover was there before
  was_there : (s : ℕ) → s ≢ m.to → is_other (man_on (after p m) s) ≡ true → man_on (after p m) s ≡ man_on p s
  was_there s other is =
      elim (cases_eq s m.from) [
        | inl same ↦ never (sym (ap is_other (ap (man_on (after p m)) same ∙ now_gone)) ∙ is)
        | inr away ↦ now_there s away other
      ]

  -- what holds of each other man before, and of the mover where he goes, holds of each afterwards
  each_after : (Q : ℕ → Option Man → Type 0) → ((s : ℕ) → s < 64 → is_other (man_on p s) ≡ true → Q s (man_on p s)) →
      (is_other (Some man) ≡ true → Q m.to (Some man)) → (s : ℕ) → s < 64 → is_other (man_on (after p m) s) ≡ true → Q s (man_on (after p m) s)
  each_after Q before mover s inside is =
      elim (cases_eq s m.to) [
        | inl same ↦
            let e : man_on (after p m) s ≡ Some man = ap (man_on (after p m)) same ∙ now_here in
            subst (λ (o : Option Man). Q s o) (sym e) (subst (λ (t : ℕ). Q t (Some man)) (sym same) (mover (sym (ap is_other e) ∙ is)))
        | inr other ↦
            let e : man_on (after p m) s ≡ man_on p s = was_there s other is in
            subst (λ (o : Option Man). Q s o) (sym e) (before s inside (sym (ap is_other e) ∙ is))
      ]

  -- there are no more of them
  fewer : count_by (λ s. is_other (man_on (after p m) s)) squares ≤ count_by (λ s. is_other (man_on p s)) squares
  unfolding count_squares
  fewer =
      let a = carried_census p man m from to its is_other refl in
      let b : bit (is_other (Some (moved_man man m.promo))) ≡ bit (is_other (Some man)) = ap (λ x. bit (is_other (Some x))) stays_man in
      let c : count_by (λ s. is_other (man_on (after p m) s)) squares ≡ count_squares is_other (moved_board p man m) =
      ap (λ (f : Men). count_by (λ s. is_other (f s)) squares) placed in
      omega arith

  pub dead_after : is_dead (after p m) ≡ true
  dead_after =
      elim (dead_is p dead) [
        | inl lone ↦
            lone_dead (after p m) (record {
              minors = each_after (λ s o. holds_minor o ≡ true) lone.minors (λ e. sym (ap holds_minor here) ∙ lone.minors m.from from (ap is_other here ∙ e));
              few = omega (arith, fewer, lone.few);
            })
        | inr one ↦
            let bishop : is_other (Some man) ≡ true → holds_bishop (Some man) ≡ true =
            λ e. sym (ap holds_bishop here) ∙ one.1.bishops m.from from (ap is_other here ∙ e) in
            bishops_dead (after p m) one.0 (record {
              bishops = each_after (λ s o. holds_bishop o ≡ true) one.1.bishops bishop;
              alike = each_after (λ s o. tone s ≡ one.0) one.1.alike (λ e.
                  sym (bishop_tone m.from m.to from to (bishop_goes p m (Some man) (sym (ap (λ o. moves_man p o m) here) ∙ pseudo) (bishop e)))
                  ∙ one.1.alike m.from from (ap is_other here ∙ e));
            })
      ]

-- a legal move from a dead position leads to a dead one
pub dead_stays : (p : PositionParts) (m : MoveParts) → IsWellFormed p → Contains (legal_moves p) m → is_dead p ≡ true → is_dead (after p m) ≡ true
dead_stays p m well listed dead =
    let (on, legal) = listed_legal p m listed in
    let pseudo : is_pseudo p m ≡ true = legal_pseudo p m legal in
    let (man, here) : (man : Man) × (man_on p m.from ≡ Some man) = pseudo_man p m pseudo in
    dead_after p m man well.setup on.from on.to here pseudo dead

-- Moves on a position seen otherwise: the pseudo-legal ones.
use Rattle.std.proofs.Common.{◌≡◌, ℕ, ◌+◌, ◌/◌, ◌<◌, ◌==◌, Bool, true, false, not, ◌&&◌, ◌||◌, Option, Some, None, is_none, is_some, if◌then◌else◌, refl, sym, ap, ◌∙◌, arith, inl, inr}
use Rattle.std.specs.Prelude.{option_map}
use Rattle.std.proofs.lemmas.Bool.{and_parts, eqb-true, true≢false, cases_eq, eq-eqb, ne_eqb}
use Rattle.chess_types.specs.declared.board.man.Colour.{Colour}
use Rattle.chess_types.specs.declared.board.man.Colour.TheVariants.{White, Black}
use Rattle.chess_types.specs.declared.board.man.Kind.{Kind}
use Rattle.chess_types.specs.declared.board.man.Kind.TheVariants.{Pawn, Knight, Bishop, Rook, Queen, King}
use Rattle.chess_types.specs.declared.board.man.Man.{Man}
use Rattle.chess_types.specs.declared.board.position.Wing.{Wing}
use Rattle.chess_types.specs.declared.board.position.Wing.TheVariants.{KingSide, QueenSide}
use Rattle.chess_types.specs.board.Board.{Men}
use Rattle.chess_types.specs.board.Squares.{rank_of}
use Rattle.chess_types.specs.board.Men.{same_colour, is_king}
use Rattle.chess_types.specs.board.MoveParts.{MoveParts}
use Rattle.chess_types.specs.board.Texts.{names_promotion}
use Rattle.chess_types.specs.board.Attack.{leaps, attacks_as}
use Rattle.chess_types.specs.board.Position.{PositionParts, IsSetup, is_explained, man_on}
use Rattle.chess_types.specs.board.Pseudo.{is_capturable, is_target, is_ahead, midway, steps_one, steps_two, pawn_takes, pawn_promotion_fits, castles, moves_as_it_attacks, moves_as, moves_man, is_pseudo}
use Rattle.chess_theorems.proofs.Symmetry.{Symmetry, IsSeen, advances, recolour, seen_move}
use Rattle.chess_theorems.proofs.SeenAttacks.{attacks_across, none_across, there_across}

-- an and whose second part matters where the first holds
pub and_if : (g h x y : Bool) → h ≡ g → (g ≡ true → y ≡ x) → (h && y) ≡ (g && x)
and_if true true x y e f = f refl
and_if true false x y e f = absurd (true≢false (sym e))
and_if false true x y e f = absurd (true≢false e)
and_if false false x y e f = refl

capturable_recoloured : (κ : Colour → Colour) → ((c d : Colour) → same_colour (κ c) (κ d) ≡ same_colour c d) → (c : Colour) (there : Option Man) →
    is_capturable (κ c) (recolour κ there) ≡ is_capturable c there
capturable_recoloured κ same c None = refl
capturable_recoloured κ same c (Some man) = λ i. not (same man.colour c i) && not (is_king man.kind)

-- tests of two squares and of the two so seen are the same test
pub squares_same : (σ : ℕ → ℕ) (κ : Colour → Colour) → Symmetry σ κ → (a b : ℕ) → a < 64 → b < 64 → (σ a == σ b) ≡ (a == b)
squares_same σ κ law a b ha hb =
    elim (cases_eq a b) [
      | inl same ↦ eq-eqb _ _ (ap σ same) ∙ sym (eq-eqb _ _ same)
      | inr other ↦
          ne_eqb _ _ (λ e. other (sym (law.twice a ha) ∙ ap σ e ∙ law.twice b hb)) ∙ sym (ne_eqb _ _ other)
    ]

pub target_across : (σ : ℕ → ℕ) (κ : Colour → Colour) → Symmetry σ κ → (target : Option ℕ) (s : ℕ) → ((t : ℕ) → target ≡ Some t → t < 64) → s < 64 →
    is_target (option_map σ target) (σ s) ≡ is_target target s
target_across σ κ law None s inside h = refl
target_across σ κ law (Some t) s inside h = squares_same σ κ law t s (inside t refl) h

-- the target of a setup is on the board
pub target_inside : (p : PositionParts) → IsSetup p → (t : ℕ) → p.target ≡ Some t → t < 64
target_inside p setup t h = by_side p.side (setup.target t h)
  where
    by_side : (c : Colour) → is_explained c (man_on p) t ≡ true → t < 64
    by_side White e =
        let a = and_parts _ _ e in
        let b = and_parts _ _ a.0 in
        let rank : rank_of t ≡ 5 = eqb-true (rank_of t) 5 (and_parts _ _ b.0).0 in
        omega (arith, rank)
    by_side Black e =
        let a = and_parts _ _ e in
        let b = and_parts _ _ a.0 in
        let rank : rank_of t ≡ 2 = eqb-true (rank_of t) 2 (and_parts _ _ b.0).0 in
        omega (arith, rank)

module _ (σ : ℕ → ℕ) (κ : Colour → Colour) (law : Symmetry σ κ) (p q : PositionParts) (setup : IsSetup p) (both : IsSeen σ κ p q) (m : MoveParts) (from : m.from < 64) (to : m.to < 64)
    (castled : (w : Wing) → castles q w (seen_move σ m) ≡ castles p w m) where
  abbrev c : Colour
  c = p.side

  abbrev E : Men
  E = man_on p

  abbrev F : Men
  F = man_on q

  one : steps_one q (seen_move σ m) ≡ steps_one p m
  one = ap (λ s. is_ahead s (σ m.from) (σ m.to) && is_none (F (σ m.to))) both.side
      ∙ (λ i. law.ahead c m.from m.to from to i && none_across σ κ law E F both.board m.to to i)

  two : steps_two q (seen_move σ m) ≡ steps_two p m
  two =
      ap (λ s. advances s (σ m.from) (σ m.to) && is_none (F ((σ m.from + σ m.to) / 2)) && is_none (F (σ m.to))) both.side
      ∙ (λ i. both_free i && none_across σ κ law E F both.board m.to to i)
    where
      both_free : (advances (κ c) (σ m.from) (σ m.to) && is_none (F ((σ m.from + σ m.to) / 2))) ≡ (advances c m.from m.to && is_none (E (midway m)))
      both_free =
          let x = law.two c m.from m.to from to in
          and_if (advances c m.from m.to) (advances (κ c) (σ m.from) (σ m.to)) (is_none (E (midway m))) (is_none (F ((σ m.from + σ m.to) / 2)))
          x.0 (λ h. ap (λ s. is_none (F s)) (x.1 h) ∙ none_across σ κ law E F both.board (midway m) (omega arith))

  takes : pawn_takes q (seen_move σ m) ≡ pawn_takes p m
  takes =
      ap (λ s. leaps s Pawn (σ m.from) (σ m.to) && (is_capturable s (F (σ m.to)) || is_target q.target (σ m.to))) both.side
      ∙ (λ i. law.leap c Pawn m.from m.to from to i
      && ((ap (is_capturable (κ c)) (there_across σ κ law E F both.board m.to to) ∙ capturable_recoloured κ law.colours c (E m.to)) i
      || (ap (λ t. is_target t (σ m.to)) both.target ∙ target_across σ κ law p.target m.to (target_inside p setup) to) i))

  fits : pawn_promotion_fits q.side (seen_move σ m) ≡ pawn_promotion_fits p.side m
  fits =
      ap (λ s. pawn_promotion_fits s (seen_move σ m)) both.side
      ∙ ap (λ b. if b then is_some m.promo && names_promotion m.promo else is_none m.promo) (law.last c m.to to)

  attacks : (kind : Kind) → moves_as_it_attacks q kind (seen_move σ m) ≡ moves_as_it_attacks p kind m
  attacks kind =
      ap (λ s. attacks_as (record { colour = s; kind = kind }) F (σ m.from) (σ m.to) && (is_none (F (σ m.to)) || is_capturable s (F (σ m.to)))) both.side
      ∙ (λ i. attacks_across σ κ law E F both.board (record { colour = c; kind = kind }) m.from m.to from to i
      && (none_across σ κ law E F both.board m.to to i || (ap (is_capturable (κ c)) (there_across σ κ law E F both.board m.to to) ∙ capturable_recoloured κ law.colours c (E m.to)) i))

  moves : (kind : Kind) → moves_as q kind (seen_move σ m) ≡ moves_as p kind m
  unfolding moves_as
  moves Pawn = λ i. (one i || two i || takes i) && fits i
  moves Knight = λ i. attacks Knight i && is_none m.promo
  moves Bishop = λ i. attacks Bishop i && is_none m.promo
  moves Rook = λ i. attacks Rook i && is_none m.promo
  moves Queen = λ i. attacks Queen i && is_none m.promo
  moves King = λ i. (attacks King i || castled KingSide i || castled QueenSide i) && is_none m.promo

  by_man : (there : Option Man) → moves_man q (recolour κ there) (seen_move σ m) ≡ moves_man p there m
  by_man None = refl
  by_man (Some man) = λ i. (ap (same_colour (κ man.colour)) both.side ∙ law.colours man.colour c) i && moves man.kind i

  pub pseudo_seen : is_pseudo q (seen_move σ m) ≡ is_pseudo p m
  pseudo_seen = ap (λ there. moves_man q there (seen_move σ m)) (there_across σ κ law E F both.board m.from from) ∙ by_man (E m.from)

-- The legal moves of the pawns that are not pinned: their plain moves that the guard lets through, those to the last rank three times
-- more, and what they take en passant.
use Rattle.std.proofs.Common.{◌≡◌, ℕ, zero, suc, ◌+◌, ◌*◌, ◌<◌, Bool, true, false, cond, ◌&&◌, ◌||◌, None, length, filter, refl, sym, ap, ◌∙◌, arith, inl, inr}
use Rattle.std.specs.List.{range_with_len}
use Rattle.std.specs.Ordering.{nat_cmp}
use Rattle.std.specs.FinSet.{FinSet, contains, from_list, contains-from_list_nat}
use Rattle.std.proofs.Math.Bool.{and-true, and-false}
use Rattle.std.proofs.lemmas.Bool.{and_parts, cases_Bool, or_cases}
use Rattle.std.proofs.lemmas.Bool.Decides.{nat_tests}
use Rattle.chess_types.specs.declared.board.man.Kind.TheVariants.{Pawn}
use Rattle.chess_types.specs.board.Men.{is_of, is_king_of}
use Rattle.chess_types.specs.board.Attack.{leaps}
use Rattle.chess_types.specs.board.Squares.{squares}
use Rattle.chess_types.specs.board.Position.{PositionParts, IsSetup, man_on, cell_of}
use Rattle.chess_types.specs.board.Pseudo.{is_target, is_capturable}
use Rattle.chess_types.specs.board.Legal.{is_legal, moves_from}
use Rattle.chess_types.proofs.BitLemmas.{has-filter}
use Rattle.chess_types.proofs.SameLemmas.{same_self}
use Rattle.chess_types.proofs.Sums.{bit, total, total-agree, total-add, total-zero}
use Rattle.chess_types.proofs.TargetLemmas.{explained_free}
use Rattle.chess_attack.specs.Pins.{permits, keeps_line, is_pinned}
use Rattle.chess_attack.proofs.Lifted.{OnlyKing}
use Rattle.chess_attack.proofs.PinLines.{unpinned}
use Rattle.chess_play.proofs.Pawns.{target_is}
use Rattle.chess_moves.specs.steps.Targets.{is_forward, is_plain_target, is_passing_target, is_legal_target, promotes}
use Rattle.chess_moves.proofs.LegalTargets.{pawn_lands, passing_stays}
use Rattle.chess_moves.proofs.PawnShifts.{plain_is, leaps_is, one_way, takes_left, takes_right}
use Rattle.chess_moves.specs.steps.PawnCounts.{pair}
use Rattle.chess_moves.proofs.SetCounts.{from_count}

-- the square that one more pawn passes over is empty, and no step leads there
module _ (p : PositionParts) (setup : IsSetup p) (a b : ℕ) (ha : a < 64) (hb : b < 64) where
  no_step : (by : ℕ) → (by ≡ 7 → ⊥) → (by ≡ 9 → ⊥) → leaps p.side Pawn a b ≡ true → is_forward p.side by a b ≡ false
  no_step by not7 not9 leap =
      elim (or_cases (takes_left p.side a b) (takes_right p.side a b) (sym (leaps_is p.side a b ha hb) ∙ leap)) [
        | inl left ↦ one_way p.side 7 by a b (λ e. not7 (sym e)) (and_parts _ _ left).0
        | inr right ↦ one_way p.side 9 by a b (λ e. not9 (sym e)) (and_parts _ _ right).0
      ]

  passing_aside : is_passing_target p a b ≡ true → is_plain_target p Pawn a b ≡ false
  passing_aside pass =
      let q : (leaps p.side Pawn a b ≡ true) × (is_target p.target b ≡ true) = and_parts _ _ pass in
      let free : man_on p b ≡ None = explained_free p.side (man_on p) b (setup.target b (target_is p.target b q.1)) in
      let one : is_forward p.side 8 a b ≡ false = no_step 8 (λ e. omega (arith, e)) (λ e. omega (arith, e)) q.0 in
      let two : is_forward p.side 16 a b ≡ false = no_step 16 (λ e. omega (arith, e)) (λ e. omega (arith, e)) q.0 in
      let none : is_capturable p.side (man_on p b) ≡ false = ap (is_capturable p.side) free in
      plain_is p a b ha hb ∙ rw (one, two, none) (and-false (takes_left p.side a b || takes_right p.side a b))

  module _ (k : ℕ) (king : OnlyKing (man_on p) p.side k) (here : man_on p a ≡ cell_of p.side Pawn) (loose : is_pinned (man_on p) p.side a ≡ false) where
    keeps : keeps_line (man_on p) p.side a k b ≡ true
    keeps = unpinned (man_on p) p.side a k b (ap (is_of p.side) here ∙ same_self p.side) (ap (is_king_of p.side) here ∙ and-false _) loose

    -- what a pawn that isn't pinned may do there
    lands : is_passing_target p a b ≡ false → is_legal_target p Pawn a b ≡ (is_plain_target p Pawn a b && permits (man_on p) p.side k b)
    lands aside =
        pawn_lands p setup a b ha hb k here king aside
        ∙ ap (λ x. is_plain_target p Pawn a b && (permits (man_on p) p.side k b && x)) keeps
        ∙ ap (λ x. is_plain_target p Pawn a b && x) (and-true (permits (man_on p) p.side k b))

    pub land_bits : bit (is_legal_target p Pawn a b) ≡ bit (is_plain_target p Pawn a b && permits (man_on p) p.side k b) + bit (is_passing_target p a b && is_legal_target p Pawn a b)
    land_bits =
        elim (cases_Bool (is_passing_target p a b)) [
          | inl pass ↦ rw (pass, passing_aside pass) (omega arith)
          | inr aside ↦ let e : bit (is_legal_target p Pawn a b) ≡ bit (is_plain_target p Pawn a b && permits (man_on p) p.side k b) = ap bit (lands aside) in rw aside (omega arith)
        ]

    pub last_bits :
        bit (is_legal_target p Pawn a b && promotes p.side Pawn b) ≡ bit (is_plain_target p Pawn a b && (permits (man_on p) p.side k b && promotes p.side Pawn b))
    last_bits =
        elim (cases_Bool (is_passing_target p a b)) [
          | inl pass ↦
              let q : (leaps p.side Pawn a b ≡ true) × (is_target p.target b ≡ true) = and_parts _ _ pass in
              let stays : promotes p.side Pawn b ≡ false = passing_stays p setup a b ha hb q.1 in
              let aside : is_plain_target p Pawn a b ≡ false = passing_aside pass in
              ap (λ x. bit (is_legal_target p Pawn a b && x)) stays ∙ ap bit (and-false (is_legal_target p Pawn a b))
              ∙ sym (ap (λ x. bit (x && (permits (man_on p) p.side k b && promotes p.side Pawn b))) aside)
          | inr aside ↦ ap bit (ap (λ x. x && promotes p.side Pawn b) (lands aside) ∙ join (is_plain_target p Pawn a b) (permits (man_on p) p.side k b) (promotes p.side Pawn b))
        ]
      where
        join : (x y z : Bool) → ((x && y) && z) ≡ (x && (y && z))
        join true y z = refl
        join false y z = refl

-- the set of the numbers that pass
held : (test : ℕ → Bool) (q : ℕ) → q < 64 → contains (from_list {R = nat_cmp} (filter test squares)) q ≡ test q
unfolding squares
held test q hq = contains-from_list_nat (filter test (range_with_len 0 64)) q ∙ has-filter test 0 64 q ∙ grind (arith, nat_tests)

total_parts : (f g h : ℕ → ℕ) (a n : ℕ) → total (λ x. f x + 3 * g x + h x) a n ≡ total f a n + 3 * total g a n + total h a n
unfolding total
total_parts f g h a zero = refl
total_parts f g h a (suc n) = omega (arith, total_parts f g h (a + 1) n)

module _ (p : PositionParts) (setup : IsSetup p) (k : ℕ) (king : OnlyKing (man_on p) p.side k) where
  abbrev pub passes : ℕ → ℕ → Bool
  passes a b = is_passing_target p a b && is_legal_target p Pawn a b

  abbrev pub lets : ℕ → Bool
  lets b = permits (man_on p) p.side k b

  abbrev pub lets_last : ℕ → Bool
  lets_last b = permits (man_on p) p.side k b && promotes p.side Pawn b

  one_pawn : (a : ℕ) → a < 64 → man_on p a ≡ cell_of p.side Pawn → is_pinned (man_on p) p.side a ≡ false →
      length (filter (is_legal p) (moves_from a))
      ≡ total (λ b. bit (is_plain_target p Pawn a b && lets b)) 0 64 + 3 * total (λ b. bit (is_plain_target p Pawn a b && lets_last b)) 0 64 + total (λ b. bit (passes a b)) 0 64
  one_pawn a ha here loose =
      let set : FinSet nat_cmp = from_list {R = nat_cmp} (filter (is_legal_target p Pawn a) squares) in
      let has : (b : ℕ) → b < 64 → contains set b ≡ is_legal_target p Pawn a b = held (is_legal_target p Pawn a) in
      let all : total (λ b. bit (contains set b)) 0 64 ≡ total (λ b. bit (is_plain_target p Pawn a b && lets b)) 0 64 + total (λ b. bit (passes a b)) 0 64 =
      total-agree (λ b. bit (contains set b)) (λ b. bit (is_plain_target p Pawn a b && lets b) + bit (passes a b)) 0 64
      (λ b low high. ap bit (has b (omega arith)) ∙ land_bits p setup a b ha (omega arith) k king here loose)
      ∙ total-add (λ b. bit (is_plain_target p Pawn a b && lets b)) (λ b. bit (passes a b)) 0 64 in
      let last : total (λ b. bit (contains set b && promotes p.side Pawn b)) 0 64 ≡ total (λ b. bit (is_plain_target p Pawn a b && lets_last b)) 0 64 =
      total-agree (λ b. bit (contains set b && promotes p.side Pawn b)) (λ b. bit (is_plain_target p Pawn a b && lets_last b)) 0 64
      (λ b low high. ap (λ x. bit (x && promotes p.side Pawn b)) (has b (omega arith)) ∙ last_bits p setup a b ha (omega arith) k king here loose) in
      omega (arith, from_count p setup Pawn a k ha here king set has, all, last)

  -- THE NUMBER OF THE FREE PAWNS' LEGAL MOVES: a sum over origins, as three sums over pairs of squares
  pub free_pawns :
      (free : ℕ → Bool) → ((a : ℕ) → a < 64 → free a ≡ true → (man_on p a ≡ cell_of p.side Pawn) × (is_pinned (man_on p) p.side a ≡ false)) →
      total (λ a. cond (free a) (length (filter (is_legal p) (moves_from a))) 0) 0 64
      ≡ total (λ a. total (λ b. bit (pair p free lets a b)) 0 64) 0 64
      + 3 * total (λ a. total (λ b. bit (pair p free lets_last a b)) 0 64) 0 64
      + total (λ a. total (λ b. bit (free a && passes a b)) 0 64) 0 64
  free_pawns free each =
      total-agree (λ a. cond (free a) (length (filter (is_legal p) (moves_from a))) 0)
      (λ a. total (λ b. bit (pair p free lets a b)) 0 64 + 3 * total (λ b. bit (pair p free lets_last a b)) 0 64 + total (λ b. bit (free a && passes a b)) 0 64) 0 64
      (λ a low high.
      elim (cases_Bool (free a)) [
        | inl on ↦ let q = each a (omega arith) on in rw on (one_pawn a (omega arith) q.0 q.1)
        | inr off ↦
            let none : total (λ b. 0) 0 64 ≡ 0 = total-zero (λ b. 0) 0 64 (λ b. refl) in
            rw off (omega (arith, none))
      ])
      ∙ total_parts (λ a. total (λ b. bit (pair p free lets a b)) 0 64) (λ a. total (λ b. bit (pair p free lets_last a b)) 0 64) (λ a. total (λ b. bit (free a && passes a b)) 0 64) 0 64

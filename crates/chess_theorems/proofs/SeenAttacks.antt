-- Boards seen otherwise: the same attacks, counts and checks.
use Rattle.std.proofs.Common.{◌≡◌, ℕ, ◌+◌, ◌<◌, ◌≤◌, nat_le, Bool, true, not, ◌&&◌, ◌||◌, Option, Some, None, is_none, refl, sym, ap, ◌∙◌, arith}
use Rattle.std.specs.List.{list_all, list_any}
use Rattle.chess_types.specs.declared.board.man.Colour.{Colour}
use Rattle.chess_types.specs.declared.board.man.Man.{Man}
use Rattle.chess_types.specs.board.Board.{Men}
use Rattle.chess_types.specs.board.Squares.{is_between, squares}
use Rattle.chess_types.specs.board.Men.{opponent, same_colour, is_king_of}
use Rattle.chess_types.specs.board.Attack.{is_clear, attacks_as, attacks_for, count, is_attacked, in_check}
use Rattle.chess_types.proofs.Runs.{list_all_at, list_all_from, list_any_at, list_any_from, same_test}
use Rattle.chess_types.proofs.Sums.{bit, total-agree}
use Rattle.chess_attack.proofs.Counting.{weight, count_is_total}
use Rattle.chess_theorems.proofs.Symmetry.{Symmetry, recolour}

module _ (σ : ℕ → ℕ) (κ : Colour → Colour) (law : Symmetry σ κ) (P Q : ℕ → Bool) (same : (t : ℕ) → t < 64 → Q (σ t) ≡ P t) where
  back : (t : ℕ) → t < 64 → Q t ≡ P (σ t)
  back t h = sym (ap Q (law.twice t h)) ∙ same (σ t) (law.inside t h)

  -- a test of all squares, and of all squares across
  pub all_across : list_all Q squares ≡ list_all P squares
  unfolding squares
  all_across =
      same_test _ _
      (λ h. list_all_from P 0 64 (λ t low high.
      sym (same t (omega arith)) ∙ list_all_at Q 0 64 (σ t) h (omega arith) (law.inside t (omega arith))))
      (λ h. list_all_from Q 0 64 (λ t low high.
      back t (omega arith) ∙ list_all_at P 0 64 (σ t) h (omega arith) (law.inside t (omega arith))))

  -- and of one of them
  pub any_across : list_any Q squares ≡ list_any P squares
  unfolding squares
  any_across =
      same_test _ _
      (λ h.
      let (t, low, high, e) : (t : ℕ) × (0 ≤ t) × (t < 0 + 64) × (Q t ≡ true) = list_any_at Q 0 64 h in
      list_any_from P 0 64 (σ t) (omega arith) (law.inside t (omega arith)) (sym (back t (omega arith)) ∙ e))
      (λ h.
      let (t, low, high, e) : (t : ℕ) × (0 ≤ t) × (t < 0 + 64) × (P t ≡ true) = list_any_at P 0 64 h in
      list_any_from Q 0 64 (σ t) (omega arith) (law.inside t (omega arith)) (same t (omega arith) ∙ e))

-- what changes with the colour, and what doesn't
none_recoloured : (κ : Colour → Colour) (there : Option Man) → is_none (recolour κ there) ≡ is_none there
none_recoloured κ None = refl
none_recoloured κ (Some man) = refl

king_recoloured : (κ : Colour → Colour) → ((c d : Colour) → same_colour (κ c) (κ d) ≡ same_colour c d) → (c : Colour) (there : Option Man) →
    is_king_of (κ c) (recolour κ there) ≡ is_king_of c there
king_recoloured κ same c None = refl
king_recoloured κ same c (Some man) = rw (same man.colour c) refl

module _ (σ : ℕ → ℕ) (κ : Colour → Colour) (law : Symmetry σ κ) (E F : Men) (mirror : (s : ℕ) → s < 64 → F s ≡ recolour κ (E (σ s))) where
  -- what stands on the square so seen
  pub there_across : (s : ℕ) → s < 64 → F (σ s) ≡ recolour κ (E s)
  there_across s h = mirror (σ s) (law.inside s h) ∙ ap (λ t. recolour κ (E t)) (law.twice s h)

  pub none_across : (s : ℕ) → s < 64 → is_none (F (σ s)) ≡ is_none (E s)
  none_across s h = ap is_none (there_across s h) ∙ none_recoloured κ (E s)

  pub clear_across : (a b : ℕ) → a < 64 → b < 64 → is_clear F (σ a) (σ b) ≡ is_clear E a b
  unfolding is_clear
  clear_across a b ha hb =
      all_across σ κ law (λ t. not (is_between a b t) || is_none (E t)) (λ t. not (is_between (σ a) (σ b) t) || is_none (F t))
      (λ t h i. not (law.between a b t ha hb h i) || none_across t h i)

  pub attacks_across : (man : Man) (a b : ℕ) → a < 64 → b < 64 →
      attacks_as (record man { colour = κ man.colour }) F (σ a) (σ b) ≡ attacks_as man E a b
  unfolding attacks_as
  attacks_across man a b ha hb = λ i.
      law.leap man.colour man.kind a b ha hb i || (law.slide man.kind a b ha hb i && clear_across a b ha hb i)

  by_man : (there : Option Man) (c : Colour) (a b : ℕ) → a < 64 → b < 64 →
      attacks_for (recolour κ there) (κ c) F (σ a) (σ b) ≡ attacks_for there c E a b
  by_man None c a b ha hb = refl
  by_man (Some man) c a b ha hb = λ i. law.colours man.colour c i && attacks_across man a b ha hb i

  pub count_across : (c : Colour) (s : ℕ) → s < 64 → count F (κ c) (σ s) ≡ count E c s
  count_across c s hs =
      count_is_total F (κ c) (σ s) ∙ sym (law.sums (weight F (κ c) (σ s)))
      ∙ total-agree (λ a. weight F (κ c) (σ s) (σ a)) (weight E c s) 0 64 (λ a low high.
      ap bit (ap (λ there. attacks_for there (κ c) F (σ a) (σ s)) (there_across a (omega arith)) ∙ by_man (E a) c a s (omega arith) hs))
      ∙ sym (count_is_total E c s)

  pub attacked_across : (c : Colour) (s : ℕ) → s < 64 → is_attacked F (κ c) (σ s) ≡ is_attacked E c s
  attacked_across c s hs = ap (nat_le 1) (count_across c s hs)

  pub check_across : (c : Colour) → in_check F (κ c) ≡ in_check E c
  unfolding in_check
  check_across c =
      any_across σ κ law (λ s. is_king_of c (E s) && is_attacked E (opponent c) s) (λ s. is_king_of (κ c) (F s) && is_attacked F (opponent (κ c)) s)
      (λ s h i. (ap (is_king_of (κ c)) (there_across s h) ∙ king_recoloured κ law.colours c (E s)) i
      && (ap (λ d. is_attacked F d (σ s)) (law.others c) ∙ attacked_across (opponent c) s h) i)

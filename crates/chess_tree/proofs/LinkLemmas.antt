-- The frame law, and nodes side by side that are split, joined and changed.
use Rattle.std.proofs.Common.{◌≡◌, ◌≢◌, ℕ, zero, suc, ◌+◌, ◌<◌, ◌≤◌, sym, ap, ◌∙◌, subst, List, [], ◌∷◌, arith}
use Rattle.chess_types.specs.board.MoveParts.{MoveParts}
use Rattle.chess_tree.specs.steps.Entries.{Entry}
use Rattle.chess_tree.specs.steps.Grove.{Grove, Empty, Tree, tally, times, wide, numbers, join, node_number, grove_move, under, within, under_at, change_at, number_at, Ways}
use Rattle.chess_tree.specs.steps.Linked.{IsLinked, IsOwned, Linked, Unplaced}
use Rattle.chess_tree.proofs.TimesLemmas.{tally_same, tally_other, times_number, times_at, times_under, numbers_within}

module _ (P : ℕ → ℕ → Type 0) where
  -- THE FRAME LAW: what stands is untouched where its nodes are
  pub linked_frame : (entry_at new : ℕ → Entry) (p k : ℕ) (g : Grove) → ((j : ℕ) → 0 < times j g → new j ≡ entry_at j)
      → Linked P entry_at p k g → Linked P new p k g
  linked_frame entry_at new p k Empty same h = tt
  linked_frame entry_at new p k (Tree i m below next) same h = (
    subst (λ (s : Entry). IsLinked P s p k m (numbers below)) (sym (same i (omega (arith, tally_same i)))) h.0,
    linked_frame entry_at new i 0 below (λ j w. same j (omega arith)) h.1,
    linked_frame entry_at new p (suc k) next (λ j w. same j (omega arith)) h.2,
  )

  pub unplaced_frame : (entry_at new : ℕ → Entry) (p : ℕ) (g : Grove) → ((j : ℕ) → 0 < times j g → new j ≡ entry_at j) → Unplaced P entry_at p g → Unplaced P new p g
  unplaced_frame entry_at new p Empty same h = tt
  unplaced_frame entry_at new p (Tree i m below next) same h = (
    subst (λ (s : Entry). IsOwned P s p m (numbers below)) (sym (same i (omega (arith, tally_same i)))) h.0,
    linked_frame entry_at new i 0 below (λ j w. same j (omega arith)) h.1,
    unplaced_frame entry_at new p next (λ j w. same j (omega arith)) h.2,
  )

  pub unplaced : (entry_at : ℕ → Entry) (p k : ℕ) (g : Grove) → Linked P entry_at p k g → Unplaced P entry_at p g
  unplaced entry_at p k Empty h = tt
  unplaced entry_at p k (Tree i m below next) h = (h.0.owned, h.1, unplaced entry_at p (suc k) next h.2)

  from_place : (entry_at : ℕ → Entry) (p a b : ℕ) (g : Grove) → a ≡ b → Linked P entry_at p a g → Linked P entry_at p b g
  from_place entry_at p a b g e h = subst (λ (x : ℕ). Linked P entry_at p x g) e h

  pub linked_join : (entry_at : ℕ → Entry) (p k : ℕ) (f g : Grove) → Linked P entry_at p k f → Linked P entry_at p (k + wide f) g → Linked P entry_at p k (join f g)
  linked_join entry_at p k Empty g h w = from_place entry_at p (k + 0) k g (omega arith) w
  linked_join entry_at p k (Tree i m below next) g h w =
      (h.0, h.1, linked_join entry_at p (suc k) next g h.2 (from_place entry_at p (k + suc (wide next)) (suc k + wide next) g (omega arith) w))

  pub linked_parts : (entry_at : ℕ → Entry) (p k : ℕ) (f g : Grove) → Linked P entry_at p k (join f g) → Linked P entry_at p k f × Linked P entry_at p (k + wide f) g
  linked_parts entry_at p k Empty g h = (tt, from_place entry_at p k (k + 0) g (omega arith) h)
  linked_parts entry_at p k (Tree i m below next) g h =
      let rest = linked_parts entry_at p (suc k) next g h.2 in
      ((h.0, h.1, rest.0), from_place entry_at p (suc k + wide next) (k + suc (wide next)) g (omega arith) rest.1)

  -- one of those side by side
  pub linked_one : (entry_at : ℕ → Entry) (p a d k : ℕ) (g : Grove) → k < wide g → Linked P entry_at p a g
      → IsLinked P (entry_at (node_number d k g)) p (a + k) (grove_move k g) (numbers (under k g)) × Linked P entry_at (node_number d k g) 0 (under k g)
  linked_one entry_at p a d k Empty h w = absurd (omega arith)
  linked_one entry_at p a d zero (Tree i m below next) h w = (subst (λ (x : ℕ). IsLinked P (entry_at i) p x m (numbers below)) (omega arith) w.0, w.1)
  linked_one entry_at p a d (suc k) (Tree i m below next) h w =
      let rest = linked_one entry_at p (suc a) d k next (omega arith) w.2 in
      (subst (λ (x : ℕ). IsLinked P (entry_at (node_number d k next)) p x (grove_move k next) (numbers (under k next))) (omega arith) rest.0, rest.1)

-- a node after an edit below it or further down
pub record StaysBut (s t : Entry) : Type 0 where
  pub played : t.played ≡ s.played
  pub parent : t.parent ≡ s.parent
  pub place : t.place ≡ s.place

module _ (P : ℕ → ℕ → Type 0) where
  stays_linked : (s t : Entry) (p k : ℕ) (m : MoveParts) (is js : List ℕ) → IsLinked P s p k m is → StaysBut s t → t.children ≡ js → IsLinked P t p k m js
  stays_linked s t p k m is js h w o =
      record {
        owned = record { move_is = w.played ∙ h.owned.move_is; parent_is = subst (P p) (sym w.parent) h.owned.parent_is; children_is = o };
        place_is = subst (P k) (sym w.place) h.place_is;
      }

  -- one of them has another grove below it
  pub linked_within : (entry_at new : ℕ → Entry) (p a d k : ℕ) (c : Grove → Grove) (g : Grove) → k < wide g → ((j : ℕ) → times j g ≤ 1)
      → ((j : ℕ) → 0 < times j g → j ≢ node_number d k g → times j (under k g) ≡ 0 → new j ≡ entry_at j)
      → StaysBut (entry_at (node_number d k g)) (new (node_number d k g)) → (new (node_number d k g)).children ≡ numbers (c (under k g))
      → Linked P new (node_number d k g) 0 (c (under k g))
      → Linked P entry_at p a g → Linked P new p a (within k c g)
  linked_within entry_at new p a d k c Empty h once same stays owns below w = absurd (omega arith)
  linked_within entry_at new p a d zero c (Tree i m below next) h once same stays owns fresh w = (
    stays_linked (entry_at i) (new i) p a m (numbers below) (numbers (c below)) w.0 stays owns,
    fresh,
    linked_frame P entry_at new p (suc a) next
        (λ j t. same j (omega arith) (λ q. let two : 0 < times i next = subst (λ (y : ℕ). 0 < times y next) q t in omega (arith, once i, tally_same i, two)) (omega (arith, once j))) w.2,
  )
  linked_within entry_at new p a d (suc k) c (Tree i m below next) h once same stays owns fresh w =
      let among = λ (j : ℕ). times_number d k next j (omega arith) in (
        subst (λ (s : Entry). IsLinked P s p a m (numbers below))
            (sym (same i (omega (arith, tally_same i))
            (λ q. let one : tally i (node_number d k next) ≡ 1 = subst (λ (y : ℕ). tally i y ≡ 1) q (tally_same i) in omega (arith, once i, tally_same i, among i, one))
            (omega (arith, once i, tally_same i, among i)))) w.0,
        linked_frame P entry_at new i 0 below
            (λ j t. same j (omega arith)
            (λ q. let one : tally j (node_number d k next) ≡ 1 = subst (λ (y : ℕ). tally j y ≡ 1) q (tally_same j) in omega (arith, once j, among j, one))
            (omega (arith, once j, among j))) w.1,
        linked_within entry_at new p (suc a) d k c next (omega arith) (λ j. omega (arith, once j)) (λ j t. same j (omega arith)) stays owns fresh w.2,
      )

  -- THE EDIT LAW: what is below the node at a path is another grove, and every node elsewhere is as it was
  pub relinked : (entry_at new : ℕ → Entry) (c : Grove → Grove) (path : List ℕ) (i : ℕ) (g : Grove) → Ways path g
      → ((j : ℕ) → tally j i + times j g ≤ 1)
      → ((j : ℕ) → 0 < tally j i + times j g → j ≢ number_at path i g → times j (under_at path g) ≡ 0 → new j ≡ entry_at j)
      → StaysBut (entry_at (number_at path i g)) (new (number_at path i g)) → (new (number_at path i g)).children ≡ numbers (c (under_at path g))
      → Linked P new (number_at path i g) 0 (c (under_at path g))
      → (entry_at i).children ≡ numbers g → Linked P entry_at i 0 g
      → StaysBut (entry_at i) (new i) × ((new i).children ≡ numbers (change_at c path g)) × Linked P new i 0 (change_at c path g)
  relinked entry_at new c [] i g ways once same stays owns fresh o w = (stays, owns, fresh)
  relinked entry_at new c (k ∷ path) i g ways once same stays owns fresh o w =
      let one = linked_one P entry_at i 0 i k g ways.0 w in
      let into = λ (j : ℕ). times_number i k g j ways.0 in
      let there = times_at path (node_number i k g) (under k g) ways.1 in
      let rest = relinked entry_at new c path (node_number i k g) (under k g) ways.1 (λ j. omega (arith, once j, into j))
      (λ j t. same j (omega (arith, into j))) stays owns fresh one.0.owned.children_is one.1 in
      let self : new i ≡ entry_at i = same i (omega (arith, tally_same i))
      (λ q. let two : 0 < tally i (node_number i k g) + times i (under k g) = subst (λ (y : ℕ). 0 < tally y (node_number i k g) + times y (under k g)) (sym q) there in omega (arith, once i, tally_same i, into i, two))
      (omega (arith, once i, tally_same i, into i, times_under i path (under k g))) in (
        record { played = ap (λ (s : Entry). s.played) self; parent = ap (λ (s : Entry). s.parent) self; place = ap (λ (s : Entry). s.place) self },
        ap (λ (s : Entry). s.children) self ∙ o ∙ sym (numbers_within k (change_at c path) g),
        linked_within entry_at new i 0 i k (change_at c path) g ways.0 (λ j. omega (arith, once j))
            (λ j t ne no. same j (omega arith)
            (λ q. let two : 0 < tally j (node_number i k g) + times j (under k g) = subst (λ (y : ℕ). 0 < tally y (node_number i k g) + times y (under k g)) (sym q) there in omega (arith, no, two, tally_other j (node_number i k g) ne))
            (omega (arith, no, times_under j path (under k g))))
            rest.0 rest.1 rest.2 w,
      )

-- A text has one spelling: of two, one goes on where the other ends.
use Rattle.std.proofs.Common.{◌≡◌, ◌≤◌, ℕ, List, [], ◌∷◌, ◌++◌, length, refl, sym, ap, subst, ◌∙◌, arith}
use Rattle.chess_items.specs.Items.{Item, Spells, place_after, place_behind}
use Rattle.chess_items.specs.declared.place.Place.{Place}
use Rattle.chess_items.specs.steps.ItemAt.{item_at}
use Rattle.chess_items.proofs.ItemLemmas.{item_goes}
use Rattle.chess_items.proofs.FoundLemmas.{the, some_is}

-- the first item is found at the beginning
pub first_found : (place : Place) (input : List ℕ) (item : Item) (items : List Item) (rest : List ℕ) → (s : Spells place input (item ∷ items) rest) → item_at place input ≡ the item s.1
first_found place input item items rest s = ap (item_at place) s.2 ∙ item_goes place item s.0 s.1 s.3

conses : (i j : Item) (s t : List Item) → i ≡ j → s ≡ t → j ∷ s ≡ i ∷ t
conses i j s t e h = cc

pub one_spelling : (place : Place) (input : List ℕ) (is js : List Item) (r q : List ℕ) → Spells place input is r → Spells place input js q → length is ≤ length js
    → (ks : List Item) × (js ≡ is ++ ks) × Spells (place_behind place is) r ks q
one_spelling place input [] js r q s t le = (js, refl, subst (λ (z : List ℕ). Spells place z js q) s t)
one_spelling place input (i ∷ is) [] r q s t le = absurd (omega arith)
one_spelling place input (i ∷ is) (j ∷ js) r q s t le =
    let e = some_is {A = Item × List ℕ} (i, s.1) (j, t.1) (sym (first_found place input i is r s) ∙ first_found place input j js q t) in
    let ei : i ≡ j = ap (λ (z : Item × List ℕ). z.0) e in
    let en : s.1 ≡ t.1 = ap (λ (z : Item × List ℕ). z.1) e in
    let t2 : Spells (place_after place i) s.1 js q = rw (ei, en) (t.4) in
    let c = one_spelling (place_after place i) s.1 is js r q s.4 t2 (omega arith) in
    (c.0, conses i j js (is ++ c.0) ei c.1, c.2)

-- items, and more after them
pub spells_on : (place : Place) (input : List ℕ) (is js : List Item) (mid rest : List ℕ) → Spells place input is mid → Spells (place_behind place is) mid js rest → Spells place input (is ++ js) rest
spells_on place input [] js mid rest s t = subst (λ (z : List ℕ). Spells place z js rest) (sym s) t
spells_on place input (i ∷ is) js mid rest s t = (s.0, s.1, s.2, s.3, spells_on (place_after place i) s.1 is js mid rest s.4 t)

-- Nodes as their slots and lists show them, after each write.
use Rattle.std.proofs.Common.{slice_index_or, ◌≡◌, ◌≢◌, ℕ, zero, suc, ◌+◌, ◌<◌, ◌≤◌, refl, sym, ap, ◌∙◌, subst, List, [], ◌∷◌, ◌++◌, length, set, arith, length-append, length-set, get_or-set_same, get_or-set_other, inl, inr}
use Rattle.std.proofs.Math.ListN.{get_or-map, get_or-append}
use Rattle.std.proofs.Math.Seq.{get_or-append_seam}
use Rattle.chess_types.specs.board.MoveParts.{MoveParts}
use Rattle.std.proofs.lemmas.List.{get_or_default, length-map, map-set}
use Rattle.std.proofs.lemmas.Bool.{cases_eq}
use Rattle.smallvec.specs.SmallVec.{SmallVec}
use Rattle.chess_tree.specs.declared.arena.slot.Slot.{Slot}
use Rattle.chess_tree.specs.declared.arena.slot.Below.{Below}
use Rattle.chess_tree.specs.declared.arena.slot.Below.TheVariants.{Nothing, One, Listed}
use Rattle.chess_tree.specs.steps.Entries.{Entry, leaf_entry, entry_at, with_children, with_parent, with_place}
use Rattle.chess_tree.specs.steps.Slots.{IsKept, blank, children_in, has_list, listed, lists_had, no_list, entry_of, entries_of, slot_at}

-- ---- looks

pub look_is : (lists : List (SmallVec ℕ)) (slots : List Slot) (i : ℕ) → entry_at (entries_of lists slots) i ≡ entry_of lists (slot_at slots i)
look_is lists slots i = get_or-map (entry_of lists) slots i blank

pub length_is : (lists : List (SmallVec ℕ)) (slots : List Slot) → length (entries_of lists slots) ≡ length slots
length_is lists slots = length-map slots (entry_of lists)

-- another slot
pub set_is : (lists : List (SmallVec ℕ)) (slots : List Slot) (i : ℕ) (s : Slot) → entries_of lists (set slots i s) ≡ set (entries_of lists slots) i (entry_of lists s)
set_is lists slots i s = map-set (entry_of lists) slots i s

-- ---- lists

list_same : (lists : List (SmallVec ℕ)) (t u : ℕ) (l : SmallVec ℕ) → u ≢ t → listed (set lists t l) u ≡ listed lists u
list_same lists t u l ne = ap (λ (v : SmallVec ℕ). v.items) (get_or-set_other lists t u l no_list ne)

-- a list that the node doesn't have
below_same : (lists : List (SmallVec ℕ)) (t : ℕ) (l : SmallVec ℕ) (b : Below) → b ≢ Listed t → children_in (set lists t l) b ≡ children_in lists b
below_same lists t l Nothing ne = refl
below_same lists t l (One child) ne = refl
below_same lists t l (Listed u) ne = list_same lists t u l (λ e. ne (ap Listed e))

none_listed : (lists : List (SmallVec ℕ)) (t : ℕ) (l : SmallVec ℕ) (slots : List Slot) → ((j : ℕ) → (slot_at slots j).below ≢ Listed t) → entries_of (set lists t l) slots ≡ entries_of lists slots
none_listed lists t l [] ne = refl
none_listed lists t l (s ∷ slots) ne =
    let here = below_same lists t l s.below (ne 0) in
    let rest = none_listed lists t l slots (λ j. ne (suc j)) in
    λ k. record { played = s.played; parent = s.parent; place = s.place; children = here k } ∷ rest k

-- another list, which one node alone has
relisted : (lists : List (SmallVec ℕ)) (t : ℕ) (l : SmallVec ℕ) (slots : List Slot) (i : ℕ) → t < length lists → (slot_at slots i).below ≡ Listed t → ((j : ℕ) → (slot_at slots j).below ≡ Listed t → i ≡ j)
    → entries_of (set lists t l) slots ≡ set (entries_of lists slots) i (record (entry_of lists (slot_at slots i)) { children = l.items })
relisted lists t l [] i short is alone = refl
relisted lists t l (s ∷ slots) zero short is alone =
    let here : children_in (set lists t l) s.below ≡ l.items = ap (children_in (set lists t l)) is ∙ ap (λ (v : SmallVec ℕ). v.items) (get_or-set_same lists t l no_list short) in
    let rest = none_listed lists t l slots (λ j e. (let no : zero ≡ suc j = alone (suc j) e in absurd (omega (arith, no)))) in
    λ k. record { played = s.played; parent = s.parent; place = s.place; children = here k } ∷ rest k
relisted lists t l (s ∷ slots) (suc i) short is alone =
    let here = below_same lists t l s.below (λ e. (let no : suc i ≡ zero = alone zero e in absurd (omega (arith, no)))) in
    let rest = relisted lists t l slots i short is (λ j e. (let same : suc i ≡ suc j = alone (suc j) e in omega (arith, same))) in
    λ k. record { played = s.played; parent = s.parent; place = s.place; children = here k } ∷ rest k

-- ---- the lists' owners

had_set : (slots : List Slot) (i : ℕ) (s : Slot) → i < length slots → lists_had (set slots i s) + has_list (slot_at slots i).below ≡ lists_had slots + has_list s.below
had_set [] i s short = absurd (omega arith)
had_set (t ∷ slots) zero s short = omega arith
had_set (t ∷ slots) (suc i) s short = omega (arith, had_set slots i s (omega arith))

had_push : (slots : List Slot) (s : Slot) → lists_had (slots ++ s ∷ []) ≡ lists_had slots + has_list s.below
had_push [] s = omega arith
had_push (t ∷ slots) s = omega (arith, had_push slots s)

at_most_one : (b : Below) → has_list b ≤ 1
at_most_one Nothing = omega arith
at_most_one (One child) = omega arith
at_most_one (Listed t) = omega arith

had_few : (slots : List Slot) → lists_had slots ≤ length slots
had_few [] = omega arith
had_few (s ∷ slots) = omega (arith, had_few slots, at_most_one s.below)

pub few_lists : (slots : List Slot) (lists : List (SmallVec ℕ)) → IsKept slots lists → length lists ≤ 1000001
few_lists slots lists k = omega (arith, k.each, k.few, had_few slots)

below_set : (slots : List Slot) (i : ℕ) (s : Slot) → i < length slots → ((t : ℕ) → s.below ≡ Listed t → (slot_at slots i).below ≡ Listed t)
    → (j t : ℕ) → (slot_at (set slots i s) j).below ≡ Listed t → (slot_at slots j).below ≡ Listed t
below_set slots i s short from j t e = elim (cases_eq j i) [
  | inl is ↦ (
      let here : (slot_at (set slots i s) i).below ≡ Listed t = ap (λ (x : ℕ). (slot_at (set slots i s) x).below) (sym is) ∙ e in
      ap (λ (x : ℕ). (slot_at slots x).below) is ∙ from t (ap (λ (x : Slot). x.below) (sym (get_or-set_same slots i s blank short)) ∙ here)
      )
  | inr ne ↦ ap (λ (x : Slot). x.below) (sym (get_or-set_other slots i j s blank ne)) ∙ e
]

-- another node, with its list
pub kept_set : (slots : List Slot) (lists : List (SmallVec ℕ)) (i : ℕ) (s : Slot) → IsKept slots lists → i < length slots
    → has_list s.below ≡ has_list (slot_at slots i).below → ((t : ℕ) → s.below ≡ Listed t → (slot_at slots i).below ≡ Listed t) → IsKept (set slots i s) lists
kept_set slots lists i s k short had from =
    let was = below_set slots i s short from in
    record {
      there = λ j t e. k.there j t (was j t e);
      apart = λ j l t e f. k.apart j l t (was j t e) (was l t f);
      each = omega (arith, k.each, had_set slots i s short, had);
      few = omega (arith, k.few, length-set slots i s);
    }

below_push : (slots : List Slot) (s : Slot) → s.below ≡ Nothing → (j t : ℕ) → (slot_at (slots ++ s ∷ []) j).below ≡ Listed t → (slot_at slots j).below ≡ Listed t
below_push [] s none zero t e = absurd cc
below_push [] s none (suc j) t e = e
below_push (x ∷ slots) s none zero t e = e
below_push (x ∷ slots) s none (suc j) t e = below_push slots s none j t e

-- a node more, without children
pub kept_push : (slots : List Slot) (lists : List (SmallVec ℕ)) (s : Slot) → IsKept slots lists → length slots ≤ 1000000 → s.below ≡ Nothing → IsKept (slots ++ s ∷ []) lists
kept_push slots lists s k few none =
    let was = below_push slots s none in
    record {
      there = λ j t e. k.there j t (was j t e);
      apart = λ j l t e f. k.apart j l t (was j t e) (was l t f);
      each = omega (arith, k.each, had_push slots s, ap has_list none);
      few = omega (arith, few, length-append slots (s ∷ []));
    }

-- another list
pub kept_list : (slots : List Slot) (lists : List (SmallVec ℕ)) (t : ℕ) (l : SmallVec ℕ) → IsKept slots lists → IsKept slots (set lists t l)
kept_list slots lists t l k = record { there = λ j u e. omega (arith, k.there j u e, length-set lists t l); apart = k.apart; each = omega (arith, k.each, length-set lists t l); few = k.few }

listed_is : (a b : ℕ) → Listed a ≡ Listed b → a ≡ b
listed_is a b e = cc

-- a list more, for a node that had none
module _ (slots : List Slot) (lists : List (SmallVec ℕ)) (i : ℕ) (s : Slot) (l : SmallVec ℕ)
    (k : IsKept slots lists) (short : i < length slots) (is : s.below ≡ Listed (length lists)) where
  own : (t : ℕ) → (slot_at (set slots i s) i).below ≡ Listed t → t ≡ length lists
  own t e = listed_is t (length lists) (sym e ∙ ap (λ (x : Slot). x.below) (get_or-set_same slots i s blank short) ∙ is)

  other : (j t : ℕ) → j ≢ i → (slot_at (set slots i s) j).below ≡ Listed t → (slot_at slots j).below ≡ Listed t
  other j t ne e = ap (λ (x : Slot). x.below) (sym (get_or-set_other slots i j s blank ne)) ∙ e

  at_here : (j t : ℕ) → j ≡ i → (slot_at (set slots i s) j).below ≡ Listed t → t ≡ length lists
  at_here j t e f = own t (ap (λ (x : ℕ). (slot_at (set slots i s) x).below) (sym e) ∙ f)

  two : (j m t : ℕ) → (slot_at (set slots i s) j).below ≡ Listed t → (slot_at (set slots i s) m).below ≡ Listed t → j ≡ m
  two j m t e f = elim (cases_eq j i) [
    | inl ji ↦ elim (cases_eq m i) [
      | inl mi ↦ ji ∙ sym mi
      | inr mi ↦ (let a = at_here j t ji e in let b = k.there m t (other m t mi f) in absurd (omega (arith, a, b)))
    ]
    | inr ji ↦ elim (cases_eq m i) [
      | inl mi ↦ (let a = at_here m t mi f in let b = k.there j t (other j t ji e) in absurd (omega (arith, a, b)))
      | inr mi ↦ k.apart j m t (other j t ji e) (other m t mi f)
    ]
  ]

  there_now : (j t : ℕ) → (slot_at (set slots i s) j).below ≡ Listed t → t < length lists + 1
  there_now j t e = elim (cases_eq j i) [ inl ji ↦ omega (arith, at_here j t ji e) | inr ji ↦ omega (arith, k.there j t (other j t ji e)) ]

  pub kept_new_list : has_list (slot_at slots i).below ≡ 0 → IsKept (set slots i s) (lists ++ l ∷ [])
  kept_new_list none =
      let more = length-append lists (l ∷ []) in
      record {
        there = λ j t e. omega (arith, there_now j t e, more);
        apart = two;
        each = omega (arith, k.each, had_set slots i s short, none, ap has_list is, more);
        few = omega (arith, k.few, length-set slots i s);
      }

-- a list more that nobody has changes nothing
children_on : (lists : List (SmallVec ℕ)) (l : SmallVec ℕ) (b : Below) → ((t : ℕ) → b ≡ Listed t → t < length lists) → children_in (lists ++ l ∷ []) b ≡ children_in lists b
children_on lists l Nothing short = refl
children_on lists l (One child) short = refl
children_on lists l (Listed t) short = ap (λ (v : SmallVec ℕ). v.items) (get_or-append lists (l ∷ []) no_list t (short t refl))

pub nodes_on : (lists : List (SmallVec ℕ)) (l : SmallVec ℕ) (slots : List Slot) → ((j t : ℕ) → (slot_at slots j).below ≡ Listed t → t < length lists) → entries_of (lists ++ l ∷ []) slots ≡ entries_of lists slots
nodes_on lists l [] short = refl
nodes_on lists l (s ∷ slots) short =
    let here = children_on lists l s.below (short 0) in
    let rest = nodes_on lists l slots (λ j. short (suc j)) in
    λ k. record { played = s.played; parent = s.parent; place = s.place; children = here k } ∷ rest k

-- ---- a node, by the slot that was read

module _ {slots : List Slot} {lists : List (SmallVec ℕ)} {nodes : List Entry} (at : ℕ)
    (k : IsKept slots lists) (v : entries_of lists slots ≡ nodes) (short : at < length nodes) where
  range : at < length slots
  range = omega (arith, short, ap length v, length_is lists slots)

  -- what was read at its number
  abbrev pub IsRead : ℕ → Slot → Type 0
  IsRead i r = (r ≡ slice_index_or slots i r) × (i ≡ at)

  slot_is : (i : ℕ) (r : Slot) → IsRead i r → r ≡ slot_at slots at
  slot_is i r e = e.0 ∙ get_or_default slots i r blank (omega (arith, range, e.1)) ∙ ap (slot_at slots) e.1

  pub node_is : (i : ℕ) (r : Slot) → IsRead i r → entry_at nodes at ≡ entry_of lists r
  node_is i r e = ap (λ (ns : List Entry). entry_at ns at) (sym v) ∙ look_is lists slots at ∙ ap (entry_of lists) (sym (slot_is i r e))

  -- its children, by where they are
  pub children_are : (i : ℕ) (r : Slot) (b : Below) → IsRead i r → r.below ≡ b → (entry_at nodes at).children ≡ children_in lists b
  children_are i r b e is = ap (λ (n : Entry). n.children) (node_is i r e) ∙ ap (children_in lists) is

  -- its list is there, and no other node's
  pub list_there : (i t : ℕ) (r : Slot) → IsRead i r → r.below ≡ Listed t → t < length lists
  list_there i t r e is = k.there at t (ap (λ (s : Slot). s.below) (sym (slot_is i r e)) ∙ is)

  -- what was read of it
  pub list_read : (i t : ℕ) (r : Slot) (l : SmallVec ℕ) → IsRead i r → r.below ≡ Listed t → l ≡ slice_index_or lists t l → l.items ≡ (entry_at nodes at).children
  list_read i t r l e is read =
      ap (λ (x : SmallVec ℕ). x.items) (read ∙ get_or_default lists t l no_list (list_there i t r e is)) ∙ sym (children_are i r (Listed t) e is)

  -- another slot
  written : (i : ℕ) (s : Slot) (n : Entry) → i ≡ at → entry_of lists s ≡ n → entries_of lists (set slots i s) ≡ set nodes at n
  written i s n e is = set_is lists slots i s ∙ (λ j. set (v j) (e j) (is j))

  pub kept_same : (i j : ℕ) (r s : Slot) → IsRead i r → j ≡ at → s.below ≡ r.below → IsKept (set slots j s) lists
  kept_same i j r s e at_j same =
      let here : r.below ≡ (slot_at slots at).below = ap (λ (x : Slot). x.below) (slot_is i r e) in
      subst (λ (x : ℕ). IsKept (set slots x s) lists) (sym at_j)
      (kept_set slots lists at s k range (ap has_list (same ∙ here)) (λ t is. sym here ∙ sym same ∙ is))

  pub kept_bare : (i j : ℕ) (r s : Slot) → IsRead i r → j ≡ at → has_list r.below ≡ 0 → has_list s.below ≡ 0 → IsKept (set slots j s) lists
  kept_bare i j r s e at_j none bare =
      let here : r.below ≡ (slot_at slots at).below = ap (λ (x : Slot). x.below) (slot_is i r e) in
      subst (λ (x : ℕ). IsKept (set slots x s) lists) (sym at_j)
      (kept_set slots lists at s k range (bare ∙ sym none ∙ ap has_list here) (λ t is. (let one = ap has_list is in absurd (omega (arith, one, bare)))))

  pub place_now : (i j : ℕ) (r : Slot) (place : ℕ) → IsRead i r → j ≡ at → entries_of lists (set slots j (record r { place = place })) ≡ with_place at place nodes
  place_now i j r place e at_j = written j (record r { place = place }) (record (entry_at nodes at) { place = place }) at_j (ap (λ (n : Entry). record n { place = place }) (sym (node_is i r e)))

  pub parent_now : (i j : ℕ) (r : Slot) (parent : ℕ) → IsRead i r → j ≡ at → entries_of lists (set slots j (record r { parent = parent })) ≡ with_parent at parent nodes
  parent_now i j r parent e at_j = written j (record r { parent = parent }) (record (entry_at nodes at) { parent = parent }) at_j (ap (λ (n : Entry). record n { parent = parent }) (sym (node_is i r e)))

  pub leaf_now : (i j : ℕ) (r : Slot) (played : MoveParts) (parent place : ℕ) → IsRead i r → j ≡ at → (entry_at nodes at).children ≡ []
      → entries_of lists (set slots j (record { played = played; parent = parent; place = place; below = r.below })) ≡ set nodes at (leaf_entry played parent place)
  leaf_now i j r played parent place e at_j bare =
      let none = sym (children_are i r r.below e refl) ∙ bare in
      written j (record { played = played; parent = parent; place = place; below = r.below }) (leaf_entry played parent place) at_j
      (λ x. record { played = played; parent = parent; place = place; children = none x })

  pub children_now : (i j : ℕ) (r : Slot) (b : Below) (children : List ℕ) → IsRead i r → j ≡ at → children_in lists b ≡ children
      → entries_of lists (set slots j (record r { below = b })) ≡ with_children at children nodes
  children_now i j r b children e at_j is =
      written j (record r { below = b }) (record (entry_at nodes at) { children = children }) at_j
      ((λ x. record { played = r.played; parent = r.parent; place = r.place; children = is x }) ∙ ap (λ (n : Entry). record n { children = children }) (sym (node_is i r e)))

  -- another list
  pub list_now : (i t : ℕ) (r : Slot) (l : SmallVec ℕ) → IsRead i r → r.below ≡ Listed t → entries_of (set lists t l) slots ≡ with_children at l.items nodes
  list_now i t r l e is =
      let here : (slot_at slots at).below ≡ Listed t = ap (λ (s : Slot). s.below) (sym (slot_is i r e)) ∙ is in
      relisted lists t l slots at (k.there at t here) here (λ j w. k.apart at j t here w)
      ∙ (λ x. set (v x) at (record (entry_of lists (slot_at slots at)) { children = l.items }))
      ∙ ap (λ (n : Entry). set nodes at (record n { children = l.items })) (ap (entry_of lists) (sym (slot_is i r e)) ∙ sym (node_is i r e))

  -- a list more
  pub new_list_kept : (i j t : ℕ) (r s : Slot) (l : SmallVec ℕ) → IsRead i r → j ≡ at → t ≡ length lists → has_list r.below ≡ 0 → s.below ≡ Listed t → IsKept (set slots j s) (lists ++ l ∷ [])
  new_list_kept i j t r s l e at_j last none is =
      subst (λ (x : ℕ). IsKept (set slots x s) (lists ++ l ∷ [])) (sym at_j)
      (kept_new_list slots lists at s l k range (is ∙ ap Listed last) (ap has_list (ap (λ (x : Slot). x.below) (sym (slot_is i r e))) ∙ none))

  pub new_list_now : (i j t : ℕ) (r : Slot) (l : SmallVec ℕ) → IsRead i r → j ≡ at → t ≡ length lists
      → entries_of (lists ++ l ∷ []) (set slots j (record r { below = Listed t })) ≡ with_children at l.items nodes
  new_list_now i j t r l e at_j last =
      let more = lists ++ l ∷ [] in
      let own : listed more t ≡ l.items = ap (listed more) last ∙ ap (λ (x : SmallVec ℕ). x.items) (get_or-append_seam lists l [] no_list) in
      set_is more slots j (record r { below = Listed t })
      ∙ (λ x. set (nodes_on lists l slots k.there x) (at_j x) (record { played = r.played; parent = r.parent; place = r.place; children = own x }))
      ∙ (λ x. set (v x) at (record { played = r.played; parent = r.parent; place = r.place; children = l.items }))
      ∙ ap (λ (n : Entry). set nodes at (record n { children = l.items })) (sym (node_is i r e))

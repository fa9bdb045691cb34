-- Where the reading of a game stops with a fault, the text isn't white.
use Rattle.std.proofs.Common.{◌≡◌, ◌⊎◌, ℕ, Bool, true, false, ◌&&◌, List, [], ◌∷◌, ◌++◌, length, Some, None, Err, refl, sym, ap, subst, ◌∙◌, append-nil}
use Rattle.std.specs.Prelude.{if◌then◌else◌}
use Rattle.std.specs.List.{list_all}
use mathlib.Core.Logic.{inl, inr}
use Rattle.chess_items.specs.Items as items
use Rattle.chess_items.specs.Items.{Each, IsSpelled, Item, Spells, may_stand, EndsRun, in_line, is_blank, is_outside, is_white, place_after, starts_line, place_behind}
use Rattle.chess_items.specs.steps.ItemAt.{item_at}
use Rattle.chess_items.specs.declared.fault.FaultKind.TheVariants.{Memory}
use Rattle.chess_items.specs.declared.fault.PgnFault.{PgnFault}
use Rattle.chess_items.specs.declared.place.Place.{Place}
use Rattle.chess_items.specs.declared.place.Place.TheVariants.{GameStart}
use Rattle.chess_items.proofs.FoundLemmas.{some_is, the}
use Rattle.chess_items.proofs.SpellLemmas.{first_found, one_spelling, spells_on}
use Rattle.chess_pgn.specs.Reading.{IsWhite, is_heading, is_movetext, is_tagged}
use Rattle.chess_pgn.specs.Tags.{AreBetween, may_part_tags}
use Rattle.chess_pgn.specs.steps.HeaderCode.{is_begun}
use Rattle.chess_pgn.specs.steps.ReaderCode.{RefusesFirst, Strays, TakesItem, takes_when}
use Rattle.chess_pgn.specs.declared.reader.Reader.{Reader}
use Rattle.chess_pgn.proofs.ChainLemmas.{InHead, Progress}
use Rattle.chess_pgn.proofs.FrontLemmas.{begun_dark}
use Rattle.chess_pgn.proofs.GivenLemmas.{between_pass}
use Rattle.chess_pgn.proofs.OneGameLemmas.{either}
use Rattle.chess_pgn.proofs.SplitLemmas.{behind_append, none_some, none_spelled, nothing_found, both_true, apart}

-- ---- a white text goes on with white items

and_true : (a b : Bool) → a ≡ true → b ≡ true → a && b ≡ true
and_true a b e h = rw e h

white_parts : (is ks : List Item) → list_all is_white (is ++ ks) ≡ true → (list_all is_white is ≡ true) × (list_all is_white ks ≡ true)
white_parts [] ks e = (refl, e)
white_parts (i ∷ is) ks e =
    let two = both_true (is_white i) (list_all is_white (is ++ ks)) e in
    let rest = white_parts is ks two.1 in
    (and_true (is_white i) (list_all is_white is) two.0 rest.0, rest.1)

-- all that was taken is white, and all that follows
pub record GoesWhite (is : List Item) (rest : List ℕ) : Type 0 where
  pub more : List Item
  pub taken : list_all is_white is ≡ true
  pub white : list_all is_white more ≡ true
  pub spelled : Spells (place_behind GameStart is) rest more []

white_on : (is js ks : List Item) (rest : List ℕ) → list_all is_white js ≡ true → js ≡ is ++ ks → Spells (place_behind GameStart is) rest ks [] → GoesWhite is rest
white_on is js ks rest w e s = (let two = white_parts is ks (ap (list_all is_white) (sym e) ∙ w) in record { more = ks; taken = two.0; white = two.1; spelled = s })

white_end : (is js ks : List Item) (rest : List ℕ) → list_all is_white js ≡ true → is ≡ js ++ ks → Spells (place_behind GameStart js) [] ks rest → GoesWhite is rest
white_end is js ks rest w e s =
    let none : ks ≡ [] = none_spelled (place_behind GameStart js) ks rest s in
    let ended : [] ≡ rest = subst (λ (z : List Item). Spells (place_behind GameStart js) [] z rest) none s in
    let same : is ≡ js = e ∙ ap (λ (z : List Item). js ++ z) none ∙ append-nil js in
    record { more = []; taken = ap (list_all is_white) same ∙ w; white = refl; spelled = sym ended }

pub goes_white : (is : List Item) (input rest : List ℕ) → Spells GameStart input is rest → IsWhite input → GoesWhite is rest
goes_white is input rest s w = elim (either (length is) (length w.items)) [
  | inl le ↦ (let c = one_spelling GameStart input is w.items rest [] s w.spelled le in white_on is w.items c.0 rest w.white c.1 c.2)
  | inr le ↦ (let c = one_spelling GameStart input w.items is [] rest w.spelled s le in white_end is w.items c.0 rest w.white c.1 c.2)
]

-- ---- no white item is refused

white_stands : (i : Item) → is_white i ≡ true → (may_part_tags i ≡ true) × (is_heading i ≡ true) × (is_tagged i ≡ false) × (is_movetext i ≡ true)
white_stands items.Mark e = (refl, refl, refl, refl)
white_stands (items.Blank b) e = (refl, refl, refl, refl)
white_stands items.Hidden e = (refl, refl, refl, refl)
white_stands _ e = absurd cc

pub are_between : (is : List Item) → list_all is_white is ≡ true → AreBetween is
are_between [] e = tt
are_between (i ∷ is) e = (let two = both_true (is_white i) (list_all is_white is) e in ((white_stands i two.0).0, are_between is two.1))

none_begun : (b : Bool) (all read : List (List ℕ × List ℕ)) → Some all ≡ (if b then None else Some read) → b ≡ false
none_begun true all read e = absurd cc
none_begun false all read e = refl

module _ {A : Type 0} (is : List Item) (white : list_all is_white is ≡ true) (r : Reader A) where
  outside_tags : InHead is r → is_begun r.header.part ≡ false
  outside_tags h = none_begun (is_begun r.header.part) [] h.taken.0 (sym (between_pass [] is (are_between is white) []) ∙ h.taken.2 [])

  in_head : Progress is r → InHead is r
  in_head (inl h) = h
  in_head (inr h) = absurd (apart white (ap (list_all is_white) h.parts ∙ begun_dark h.head h.movetext h.begun))

  none_told : (item : Item) (fault : PgnFault) → is_white item ≡ true → InHead is r → (fault.kind ≡ Memory) ⊎ (Strays item fault r.header ⊎ ((is_heading item ≡ false) × RefusesFirst item fault.kind r)) → fault.kind ≡ Memory
  none_told item fault e h (inl k) = k
  none_told item fault e h (inr (inl (inl k))) = absurd (apart k.0 (outside_tags h))
  none_told item fault e h (inr (inl (inr k))) = absurd (apart k.1 (white_stands item e).2)
  none_told item fault e h (inr (inr k)) = absurd (apart (white_stands item e).1 k.0)

  pub white_refused : (item : Item) (fault : PgnFault) (u : Reader A) → is_white item ≡ true → Progress is r → TakesItem r item (Err fault) u → fault.kind ≡ Memory
  white_refused item fault u e p k = (let h = in_head p in none_told item fault e h (subst (λ (b : Bool). takes_when b item (Err fault) r u) h.moving k.0))

-- ---- what comes next, where all that follows is white

white_next : (place : Place) (rest next : List ℕ) (item : Item) (ks : List Item) → item_at place rest ≡ the item next → list_all is_white ks ≡ true → Spells place rest ks [] → is_white item ≡ true
white_next place rest next item [] found w s = absurd (none_some (item, next) (item_at place rest) found (ap (item_at place) s ∙ nothing_found place))
white_next place rest next item (k ∷ ks) found w s =
    let e = some_is {A = Item × List ℕ} (k, s.1) (item, next) (sym (first_found place rest k ks [] s) ∙ found) in
    subst (λ (i : Item). is_white i ≡ true) (ap (λ (z : Item × List ℕ). z.0) e) (both_true (is_white k) (list_all is_white ks) w).0

white_aground : (place : Place) (rest : List ℕ) (ks : List Item) → item_at place rest ≡ None → (rest ≡ [] → ⊥) → Spells place rest ks [] → ⊥
white_aground place rest [] none some s = some s
white_aground place rest (k ∷ ks) none some s = none_some (k, s.1) (item_at place rest) (first_found place rest k ks [] s) none

module _ {A : Type 0} (is : List Item) (input rest : List ℕ) (spelled : Spells GameStart input is rest) (w : IsWhite input) where
  pub dark_refused : (item : Item) (fault : PgnFault) (t u : Reader A) (next : List ℕ) → Progress is t → TakesItem t item (Err fault) u → (fault.kind ≡ Memory → ⊥) → item_at (place_behind GameStart is) rest ≡ the item next → ⊥
  dark_refused item fault t u next p k kind found =
      let g = goes_white is input rest spelled w in
      kind (white_refused is g.taken t item fault u (white_next (place_behind GameStart is) rest next item g.more found g.white g.spelled) p k)

pub dark_aground : (is : List Item) (input rest : List ℕ) → Spells GameStart input is rest → IsWhite input → item_at (place_behind GameStart is) rest ≡ None → (rest ≡ [] → ⊥) → ⊥
dark_aground is input rest s w none some = (let g = goes_white is input rest s w in white_aground (place_behind GameStart is) rest g.more none some g.spelled)

-- some of what was taken isn't white
pub dark_taken : (is : List Item) (input rest : List ℕ) → Spells GameStart input is rest → IsWhite input → list_all is_white is ≡ false → ⊥
dark_taken is input rest s w e = apart ((goes_white is input rest s w).taken) e

-- ---- white space beyond the limit

-- after white items something else comes
pub dark_beyond : (is ks : List Item) (input mid rest : List ℕ) → Spells GameStart input is mid → Spells (place_behind GameStart is) mid ks rest → IsWhite input
    → ((item : Item) (next : List ℕ) → item_at (place_behind (place_behind GameStart is) ks) rest ≡ the item next → is_white item ≡ false) → (rest ≡ [] → ⊥) → ⊥
dark_beyond is ks input mid rest s t w other some = by g.more refl
  where
    g : GoesWhite (is ++ ks) rest
    g = goes_white (is ++ ks) input rest (spells_on GameStart input is ks mid rest s t) w

    by : (more : List Item) → g.more ≡ more → ⊥
    by [] e = some (subst (λ (l : List Item). Spells (place_behind GameStart (is ++ ks)) rest l []) e g.spelled)
    by (k ∷ more) e =
        let spelled : Spells (place_behind GameStart (is ++ ks)) rest (k ∷ more) [] = subst (λ (l : List Item). Spells (place_behind GameStart (is ++ ks)) rest l []) e g.spelled in
        let found = first_found (place_behind GameStart (is ++ ks)) rest k more [] spelled in
        let white = (both_true (is_white k) (list_all is_white more) (ap (list_all is_white) (sym e) ∙ g.white)).0 in
        apart white (other k spelled.1 (subst (λ (p : Place). item_at p rest ≡ the k spelled.1) (behind_append GameStart is ks) found))

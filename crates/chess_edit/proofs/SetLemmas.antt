-- Tags looked up by their names once one is set.
use Rattle.std.proofs.Common.{◌≡◌, ℕ, Bool, true, false, List, [], ◌∷◌, ◌++◌, Option, Some, None, refl, sym, ap, subst, ◌∙◌, inl, inr}
use Rattle.std.specs.Prelude.{if◌then◌else◌, ◌||◌, ◌⊎◌, bytes_eq, codes, is_none}
use Rattle.std.specs.Cmp.Lexicographic.{bytes_decides}
use Rattle.std.proofs.lemmas.Bool.{cases_Bool, false_from_ne_true, true≢false}
use Rattle.chess_pgn.specs.Games.{Tags, tag_in, tag_value, unknown}
use Rattle.chess_pgn.specs.Tags.{Ascend}
use Rattle.chess_pgn.specs.steps.OtherCode.{Sets}
use Rattle.chess_edit.specs.SetTags.{IsSet, is_on_each}

abbrev Pairs : Type 0
Pairs = List (List ℕ × List ℕ)

if_true : {A : Type 0} (b : Bool) (x y : A) → b ≡ true → (if b then x else y) ≡ x
if_true true x y e = refl
if_true false x y e = absurd cc

if_false : {A : Type 0} (b : Bool) (x y : A) → b ≡ false → (if b then x else y) ≡ y
if_false true x y e = absurd cc
if_false false x y e = refl

same : (a b : List ℕ) → a ≡ b → bytes_eq a b ≡ true
same a b e = (bytes_decides a b).1 e

differ : (a b : List ℕ) → (a ≡ b → ⊥) → bytes_eq a b ≡ false
differ a b n = false_from_ne_true (bytes_eq a b) (λ e. n ((bytes_decides a b).0 e))

no : (a b : List ℕ) → bytes_eq a b ≡ false → a ≡ b → ⊥
no a b f e = true≢false (sym (same a b e) ∙ f)

-- the first tag has the name
pub set_here : (name key value old other : List ℕ) (rest : Pairs) → bytes_eq name key ≡ true →
    tag_in other ((key, value) ∷ rest) ≡ (if bytes_eq name other then Some value else tag_in other ((key, old) ∷ rest))
set_here name key value old other rest is =
    let n : name ≡ key = (bytes_decides name key).0 is in
    elim (cases_Bool (bytes_eq other key)) [
      | inl there ↦
          let o : other ≡ key = (bytes_decides other key).0 there in
          if_true (bytes_eq other key) (Some value) (tag_in other rest) there
          ∙ sym (if_true (bytes_eq name other) (Some value) (tag_in other ((key, old) ∷ rest)) (same name other (n ∙ sym o)))
      | inr other_one ↦
          let apart : bytes_eq name other ≡ false = differ name other (λ e. no other key other_one (sym e ∙ n)) in
          if_false (bytes_eq other key) (Some value) (tag_in other rest) other_one
          ∙ sym (if_false (bytes_eq other key) (Some old) (tag_in other rest) other_one)
          ∙ sym (if_false (bytes_eq name other) (Some value) (tag_in other ((key, old) ∷ rest)) apart)
    ]

-- the first tag has another name
pub set_after : (name key x other : List ℕ) (value : Option (List ℕ)) (old new : Pairs) → bytes_eq name key ≡ false →
    tag_in other new ≡ (if bytes_eq name other then value else tag_in other old) →
    tag_in other ((key, x) ∷ new) ≡ (if bytes_eq name other then value else tag_in other ((key, x) ∷ old))
set_after name key x other value old new is_other later =
    elim (cases_Bool (bytes_eq other key)) [
      | inl there ↦
          let o : other ≡ key = (bytes_decides other key).0 there in
          let apart : bytes_eq name other ≡ false = differ name other (λ e. no name key is_other (e ∙ o)) in
          if_true (bytes_eq other key) (Some x) (tag_in other new) there
          ∙ sym (if_true (bytes_eq other key) (Some x) (tag_in other old) there)
          ∙ sym (if_false (bytes_eq name other) value (tag_in other ((key, x) ∷ old)) apart)
      | inr other_one ↦
          if_false (bytes_eq other key) (Some x) (tag_in other new) other_one
          ∙ later
          ∙ ap (λ (o : Option (List ℕ)). if bytes_eq name other then value else o) (sym (if_false (bytes_eq other key) (Some x) (tag_in other old) other_one))
    ]

-- the first tags have other names
abbrev AreOthers : List ℕ → Pairs → Type 0
AreOthers name [] = Unit {0}
AreOthers name (tag ∷ prefix) = (bytes_eq name tag.0 ≡ false) × AreOthers name prefix

after_front : (name other : List ℕ) (value : Option (List ℕ)) (prefix old new : Pairs) → AreOthers name prefix → tag_in other new ≡ (if bytes_eq name other then value else tag_in other old) →
    tag_in other (prefix ++ new) ≡ (if bytes_eq name other then value else tag_in other (prefix ++ old))
after_front name other value [] old new others later = later
after_front name other value ((key, x) ∷ prefix) old new others later =
    set_after name key x other value (prefix ++ old) (prefix ++ new) others.0 (after_front name other value prefix old new others.1 later)

-- ---- the six tags that each game has, and the others

abbrev site_on : Tags → Pairs
site_on t = (codes "Site", t.site) ∷ (codes "Date", t.date) ∷ (codes "Round", t.round) ∷ (codes "White", t.white) ∷ (codes "Black", t.black) ∷ t.others

abbrev date_on : Tags → Pairs
date_on t = (codes "Date", t.date) ∷ (codes "Round", t.round) ∷ (codes "White", t.white) ∷ (codes "Black", t.black) ∷ t.others

abbrev round_on : Tags → Pairs
round_on t = (codes "Round", t.round) ∷ (codes "White", t.white) ∷ (codes "Black", t.black) ∷ t.others

abbrev white_on : Tags → Pairs
white_on t = (codes "White", t.white) ∷ (codes "Black", t.black) ∷ t.others

abbrev black_on : Tags → Pairs
black_on t = (codes "Black", t.black) ∷ t.others

abbrev before_date : Tags → Pairs
before_date t = (codes "Event", t.event) ∷ (codes "Site", t.site) ∷ []

abbrev before_round : Tags → Pairs
before_round t = (codes "Event", t.event) ∷ (codes "Site", t.site) ∷ (codes "Date", t.date) ∷ []

abbrev before_white : Tags → Pairs
before_white t = (codes "Event", t.event) ∷ (codes "Site", t.site) ∷ (codes "Date", t.date) ∷ (codes "Round", t.round) ∷ []

abbrev before_black : Tags → Pairs
before_black t = (codes "Event", t.event) ∷ (codes "Site", t.site) ∷ (codes "Date", t.date) ∷ (codes "Round", t.round) ∷ (codes "White", t.white) ∷ []

abbrev before_others : Tags → Pairs
before_others t = (codes "Event", t.event) ∷ (codes "Site", t.site) ∷ (codes "Date", t.date) ∷ (codes "Round", t.round) ∷ (codes "White", t.white) ∷ (codes "Black", t.black) ∷ []

pub set_event : (name value : List ℕ) (t : Tags) → bytes_eq name (codes "Event") ≡ true →
    IsSet name (Some value) t (record t { event = value })
unfolding tag_value
set_event name value t is = record { tags = λ other. set_here name (codes "Event") value t.event other (site_on t) is; others = λ _ _. refl; ascend = λ a. a }

pub set_site : (name value : List ℕ) (t : Tags) → bytes_eq name (codes "Event") ≡ false → bytes_eq name (codes "Site") ≡ true →
    IsSet name (Some value) t (record t { site = value })
unfolding tag_value
set_site name value t n0 is = record { tags = λ other. after_front name other (Some value) ((codes "Event", t.event) ∷ []) (site_on t) (site_on (record t { site = value })) (n0, tt) (set_here name (codes "Site") value t.site other (date_on t) is); others = λ _ _. refl; ascend = λ a. a }

pub set_date : (name value : List ℕ) (t : Tags) → bytes_eq name (codes "Event") ≡ false → bytes_eq name (codes "Site") ≡ false → bytes_eq name (codes "Date") ≡ true →
    IsSet name (Some value) t (record t { date = value })
unfolding tag_value
set_date name value t n0 n1 is = record { tags = λ other. after_front name other (Some value) (before_date t) (date_on t) (date_on (record t { date = value })) (n0, (n1, tt)) (set_here name (codes "Date") value t.date other (round_on t) is); others = λ _ _. refl; ascend = λ a. a }

pub set_round : (name value : List ℕ) (t : Tags) → bytes_eq name (codes "Event") ≡ false → bytes_eq name (codes "Site") ≡ false → bytes_eq name (codes "Date") ≡ false → bytes_eq name (codes "Round") ≡ true →
    IsSet name (Some value) t (record t { round = value })
unfolding tag_value
set_round name value t n0 n1 n2 is = record { tags = λ other. after_front name other (Some value) (before_round t) (round_on t) (round_on (record t { round = value })) (n0, (n1, (n2, tt))) (set_here name (codes "Round") value t.round other (white_on t) is); others = λ _ _. refl; ascend = λ a. a }

pub set_white : (name value : List ℕ) (t : Tags) → bytes_eq name (codes "Event") ≡ false → bytes_eq name (codes "Site") ≡ false → bytes_eq name (codes "Date") ≡ false → bytes_eq name (codes "Round") ≡ false → bytes_eq name (codes "White") ≡ true →
    IsSet name (Some value) t (record t { white = value })
unfolding tag_value
set_white name value t n0 n1 n2 n3 is = record { tags = λ other. after_front name other (Some value) (before_white t) (white_on t) (white_on (record t { white = value })) (n0, (n1, (n2, (n3, tt)))) (set_here name (codes "White") value t.white other (black_on t) is); others = λ _ _. refl; ascend = λ a. a }

pub set_black : (name value : List ℕ) (t : Tags) → bytes_eq name (codes "Event") ≡ false → bytes_eq name (codes "Site") ≡ false → bytes_eq name (codes "Date") ≡ false → bytes_eq name (codes "Round") ≡ false → bytes_eq name (codes "White") ≡ false → bytes_eq name (codes "Black") ≡ true →
    IsSet name (Some value) t (record t { black = value })
unfolding tag_value
set_black name value t n0 n1 n2 n3 n4 is = record { tags = λ other. after_front name other (Some value) (before_black t) (black_on t) (black_on (record t { black = value })) (n0, (n1, (n2, (n3, (n4, tt))))) (set_here name (codes "Black") value t.black other t.others is); others = λ _ _. refl; ascend = λ a. a }

-- a name that each game has is none of the others
or_true : (a b : Bool) → (a || b) ≡ true → (a ≡ true) ⊎ (b ≡ true)
or_true true b e = inl refl
or_true false b e = inr e

is_one : (name other key : List ℕ) → bytes_eq name key ≡ false → bytes_eq other key ≡ true → bytes_eq name other ≡ false
is_one name other key no_key is = differ name other (λ e. no name key no_key (e ∙ (bytes_decides other key).0 is))

is_apart : (name other : List ℕ) → bytes_eq name (codes "Event") ≡ false → bytes_eq name (codes "Site") ≡ false → bytes_eq name (codes "Date") ≡ false → bytes_eq name (codes "Round") ≡ false → bytes_eq name (codes "White") ≡ false → bytes_eq name (codes "Black") ≡ false →
    is_on_each other ≡ true → bytes_eq name other ≡ false
is_apart name other n0 n1 n2 n3 n4 n5 on =
    elim (or_true (bytes_eq other (codes "Event")) _ on) [
      | inl event ↦ is_one name other (codes "Event") n0 event
      | inr not_event ↦ elim (or_true (bytes_eq other (codes "Site")) _ not_event) [
        | inl site ↦ is_one name other (codes "Site") n1 site
        | inr not_site ↦ elim (or_true (bytes_eq other (codes "Date")) _ not_site) [
          | inl date ↦ is_one name other (codes "Date") n2 date
          | inr not_date ↦ elim (or_true (bytes_eq other (codes "Round")) _ not_date) [
            | inl round ↦ is_one name other (codes "Round") n3 round
            | inr not_round ↦ elim (or_true (bytes_eq other (codes "White")) _ not_round) [
              | inl white ↦ is_one name other (codes "White") n4 white
              | inr black ↦ is_one name other (codes "Black") n5 black
            ]
          ]
        ]
      ]
    ]

-- one of the others
pub set_other : (name : List ℕ) (value : Option (List ℕ)) (t : Tags) (others : Pairs) → bytes_eq name (codes "Event") ≡ false → bytes_eq name (codes "Site") ≡ false → bytes_eq name (codes "Date") ≡ false → bytes_eq name (codes "Round") ≡ false → bytes_eq name (codes "White") ≡ false → bytes_eq name (codes "Black") ≡ false →
    Sets name value t.others others → Ascend others → IsSet name value t (record t { others = others })
unfolding tag_value
set_other name value t others n0 n1 n2 n3 n4 n5 sets ascend =
    record { tags = λ other. after_front name other value (before_others t) t.others others (n0, (n1, (n2, (n3, (n4, (n5, tt)))))) (sets other); others = λ other on. sets other ∙ if_false (bytes_eq name other) value (tag_in other t.others) (is_apart name other n0 n1 n2 n3 n4 n5 on); ascend = λ _. ascend }

-- ---- a tag of which a game without tags has none

apart_from : (name key value : List ℕ) (rest : Pairs) → tag_in name ((key, value) ∷ rest) ≡ None → (bytes_eq name key ≡ false) × (tag_in name rest ≡ None)
apart_from name key value rest none =
    let not_it : bytes_eq name key ≡ false =
    false_from_ne_true (bytes_eq name key) (λ is. true≢false (sym (ap is_none (sym (if_true (bytes_eq name key) (Some value) (tag_in name rest) is) ∙ none)))) in
    (not_it, sym (if_false (bytes_eq name key) (Some value) (tag_in name rest) not_it) ∙ none)

pub cleared_other : (name : List ℕ) (value : Option (List ℕ)) (t : Tags) (others : Pairs) → value ≡ None → value ≡ tag_value name unknown →
    Sets name None t.others others → Ascend others → IsSet name (tag_value name unknown) t (record t { others = others })
unfolding tag_value
cleared_other name value t others none is sets ascend =
    let gone : tag_value name unknown ≡ None = sym is ∙ none in
    let event = apart_from name (codes "Event") (codes "?") (site_on unknown) gone in
    let site = apart_from name (codes "Site") (codes "?") (date_on unknown) event.1 in
    let date = apart_from name (codes "Date") (codes "????.??.??") (round_on unknown) site.1 in
    let round = apart_from name (codes "Round") (codes "?") (white_on unknown) date.1 in
    let white = apart_from name (codes "White") (codes "?") (black_on unknown) round.1 in
    let black = apart_from name (codes "Black") (codes "?") [] white.1 in
    subst (λ (v : Option (List ℕ)). IsSet name v t (record t { others = others })) (sym gone)
    (set_other name None t others event.0 site.0 date.0 round.0 white.0 black.0 sets ascend)

-- The items of a head, and what its tags say.
use Rattle.std.proofs.Common.{◌≡◌, ◌⊎◌, inl, inr, ℕ, ◌+◌, ◌-◌, ◌≤◌, ◌<◌, Bool, true, false, not, ◌&&◌, List, [], ◌∷◌, ◌++◌, length, refl, sym, ap, subst, ◌∙◌, arith, append-nil, Option, Some, None, Result}
use Rattle.std.specs.List.{list_all}
use Rattle.byte_streams.specs.Calls.{Calls, joined}
use Rattle.chess_items.specs.Abandoned.{moves_begin}
use Rattle.chess_items.specs.Items as items
use Rattle.chess_items.specs.Items.{Item, Spells, place_after, place_behind}
use Rattle.chess_items.specs.declared.place.Place.{Place}
use Rattle.chess_items.specs.declared.place.Place.TheVariants.{GameStart, LineStart, InLine, TagLineStart, InTag, InValue}
use Rattle.chess_items.specs.declared.fault.PgnFault.{PgnFault}
use Rattle.chess_items.specs.declared.taker.Taken.{Taken}
use Rattle.chess_items.specs.declared.taking.Stop.{Stop}
use Rattle.chess_items.specs.declared.taking.Stop.TheVariants as stop
use Rattle.chess_items.specs.declared.taking.Stopped.{Stopped}
use Rattle.chess_items.specs.declared.text.Whole.{Whole}
use Rattle.chess_items.specs.steps.ItemAt.{item_at, outside_at, tag_at, value_at}
use Rattle.chess_items.specs.steps.Passing.{Passed}
use Rattle.chess_items.specs.steps.Texts.{Oversized}
use Rattle.chess_items.specs.steps.Taking.{AfterRun, Brackets, Takes, Took, behind}
use Rattle.chess_items.proofs.FoundLemmas.{the, some_is}
use Rattle.chess_items.proofs.SkimLemmas.{spells_split, too_far}
use Rattle.chess_items.proofs.TakingLemmas.{bare, spells_bare}
use Rattle.chess_collection.specs.Headings.{Heading, IsHead, IsThreeOf, Three}
use Rattle.chess_collection.specs.steps.Finding.{TakesOn, given, given_by, is_refused}
use Rattle.chess_collection.specs.declared.heading.Finder.{Finder}
use Rattle.chess_collection.specs.declared.heading.Heads.{Heads}
use Rattle.chess_collection.specs.declared.heading.Part.{Part}
use Rattle.chess_collection.specs.declared.heading.Part.TheVariants.{Before, Within, After}

-- nothing comes of a whole text
pub nothing_comes : (s t : Whole) (pieces : List (List ℕ)) → Calls {S = Whole} (λ s bytes t. bytes ≡ []) s pieces t → joined pieces ≡ []
nothing_comes s t [] c = refl
nothing_comes s t (p ∷ ps) c = ap (λ (x : List ℕ). x ++ joined ps) c.1 ∙ nothing_comes c.0 t ps c.2

behind_bare : (place : Place) (is : List (ℕ × Item)) → behind place is ≡ place_behind place (bare is)
behind_bare place [] = refl
behind_bare place (x ∷ is) = behind_bare (place_after place x.1) is

abbrev pub heads_take : Heads → ℕ → Item → Result Taken PgnFault → Heads → Type 0
heads_take old at item result new = TakesOn old item result new

-- no item of a head begins the movetext
all_heading : (t u : Heads) (is : List (ℕ × Item)) → Takes heads_take t is u → list_all (λ item. not (moves_begin item)) (bare is) ≡ true
all_heading t u [] s = refl
all_heading t u (x ∷ is) s = ap (λ (b : Bool). not b && list_all (λ item. not (moves_begin item)) (bare is)) s.1.0 ∙ all_heading s.0 u is s.2

-- what is given before the items is given after them
given_first : (t u : Heads) (is : List (ℕ × Item)) → Takes heads_take t is u → given u.first [] ≡ given t.first (bare is)
given_first t u [] s = ap (λ (h : Heads). given h.first []) (sym s)
given_first t u (x ∷ is) s = given_first s.0 u is s.2 ∙ s.1.1 (bare is)

given_second : (t u : Heads) (is : List (ℕ × Item)) → Takes heads_take t is u → given u.second [] ≡ given t.second (bare is)
given_second t u [] s = ap (λ (h : Heads). given h.second []) (sym s)
given_second t u (x ∷ is) s = given_second s.0 u is s.2 ∙ s.1.2 (bare is)

given_third : (t u : Heads) (is : List (ℕ × Item)) → Takes heads_take t is u → given u.third [] ≡ given t.third (bare is)
given_third t u [] s = ap (λ (h : Heads). given h.third []) (sym s)
given_third t u (x ∷ is) s = given_third s.0 u is s.2 ∙ s.1.3 (bare is)

-- the bracket of a tag changes nothing
bracket_alone : (f : Finder) → given f (items.TagOpen ∷ []) ≡ given f []
bracket_alone f = by f.part
  where
    by : (p : Part) → given_by p f.name.now f.value.items (items.TagOpen ∷ []) ≡ given_by p f.name.now f.value.items []
    by Before = refl
    by Within = refl
    by After = refl

abbrev pub comes : Whole → List ℕ → Whole → Type 0
comes s bytes t = bytes ≡ []

abbrev pub at_hand : Whole → List ℕ
at_hand s = s.left.now

abbrev pub all : Whole → Type 0
all s = Unit {0}

abbrev pub reads : Whole → ℕ
reads s = 0

-- no item is in no text
nothing_there : (place : Place) → item_at place [] ≡ None
unfolding item_at outside_at tag_at value_at
nothing_there GameStart = refl
nothing_there LineStart = refl
nothing_there InLine = refl
nothing_there TagLineStart = refl
nothing_there InTag = refl
nothing_there InValue = refl

-- what was found in the head of a text
pub record Found (text : List ℕ) (t u : Heads) : Type 0 where
  pub is : List Item
  pub head : IsHead text is
  pub first : given u.first [] ≡ given t.first is
  pub second : given u.second [] ≡ given t.second is
  pub third : given u.third [] ≡ given t.third is

module _ (old mid : Whole) (t : Heads) (pieces : List (List ℕ)) (none : joined pieces ≡ []) (at : ℕ) (place : Place) (white : Bool) where
  abbrev Taken_up : List (ℕ × Item) → Type 0
  Taken_up is = Took comes at_hand all all reads heads_take 1048576 old pieces mid is at place white

  spelled : (is : List (ℕ × Item)) → Taken_up is → Spells GameStart old.left.now (bare is) mid.left.now
  spelled is k =
      subst (λ (x : List ℕ). Spells GameStart x (bare is) mid.left.now) (ap (λ (x : List ℕ). old.left.now ++ (x ++ [])) none ∙ append-nil old.left.now)
      (subst (λ (x : List ℕ). Spells GameStart (old.left.now ++ (joined pieces ++ [])) (bare is) x) (append-nil mid.left.now)
      (spells_bare 0 GameStart (old.left.now ++ (joined pieces ++ [])) is (mid.left.now ++ []) (k.spelled [] (λ _. refl))))

  few : (is : List (ℕ × Item)) → Taken_up is → length old.left.now ≤ 1048576 + length mid.left.now
  few is k = (let c = k.counted in let f = k.few in let n = ap length none in omega (arith, c, f, n))

  -- the item that comes next
  next : (is : List (ℕ × Item)) → Taken_up is → (item : Item) (more : List ℕ) → Spells GameStart old.left.now (bare is ++ item ∷ []) more → item_at place mid.left.now ≡ the item more
  next is k item more s =
      ap (λ (p : Place). item_at p mid.left.now) (k.stands ∙ behind_bare GameStart is) ∙ spells_split GameStart old.left.now (bare is) mid.left.now item more (spelled is k) s

  found : (u : Heads) (is : List (ℕ × Item)) → (k : Taken_up is) → Takes heads_take t is u
      → ((item : Item) (more : List ℕ) → item_at place mid.left.now ≡ the item more → (moves_begin item ≡ true) ⊎ (1048576 + length more < length old.left.now)) → Found old.left.now t u
  unfolding spelled few next all_heading given_first given_second given_third
  found u is k took stops = record {
    is = bare is;
    head = record { rest = mid.left.now; spelled = spelled is k; none = all_heading t u is took; few = few is k; last = λ item more s. stops item more (next is k item more s) };
    first = given_first t u is took;
    second = given_second t u is took;
    third = given_third t u is took;
  }

  -- with the same tags
  same_found : (u v : Heads) → Found old.left.now t u → given v.first [] ≡ given u.first [] → given v.second [] ≡ given u.second [] → given v.third [] ≡ given u.third [] → Found old.left.now t v
  same_found u v f a b c = record { is = f.is; head = f.head; first = a ∙ f.first; second = b ∙ f.second; third = c ∙ f.third }

  nowhere : (item : Item) (more : List ℕ) → item_at place mid.left.now ≡ None → item_at place mid.left.now ≡ the item more → ⊥
  nowhere item more e h = (let wrong : None ≡ the item more = sym e ∙ h in cc)

  pub found_at : (u : Heads) (why : Stop) → is_refused why ≡ false → AfterRun comes at_hand all all reads heads_take 1048576 old pieces mid t u at place white why → Found old.left.now t u
  found_at u stop.Full not r = absurd r.ends
  found_at u stop.Left not r =
      same_found r.mid u
      (found r.mid r.items r.took r.taken
      (λ item more h. inl (let e = some_is (r.item, r.rest ++ []) (item, more) (sym (subst (λ (x : List ℕ). item_at place x ≡ Some (r.item, r.rest ++ [])) (append-nil mid.left.now) (r.found [] (λ _. refl))) ∙ h) in ap (λ (x : Item × List ℕ). moves_begin x.0) (sym e) ∙ r.answered.0)))
      (ap (λ (x : Heads). given x.first []) r.answered.1) (ap (λ (x : Heads). given x.second []) r.answered.1) (ap (λ (x : Heads). given x.third []) r.answered.1)
  found_at u (stop.Refused fault) not r = absurd cc
  found_at u stop.End not r =
      found u r.items r.took r.taken (λ item more h. absurd (nowhere item more (ap (item_at place) r.nothing ∙ nothing_there place) h))
  found_at u stop.NoItem not r =
      found u r.items r.took r.taken (λ item more h. absurd (nowhere item more (subst (λ (x : List ℕ). item_at place x ≡ None) (append-nil mid.left.now) (r.none.none [] (λ _. refl))) h))
  found_at u stop.TooLarge not r =
      let before =
      found r.mid r.items r.took r.taken
      (λ item more h. inr (let o = subst (λ (x : List ℕ). Oversized (1048576 - at) place x) (append-nil mid.left.now) (r.exceeds.over [] (λ _. refl)) in
      let far = too_far place (1048576 - at) mid.left.now item more o h in
      let c = r.took.counted in let n = ap length none in let f = r.took.few in omega (arith, far, c, n, f))) in
      past r.mid u before r.exceeds.same
    where
      past : (m v : Heads) → Found old.left.now t m → (v ≡ m) ⊎ Brackets heads_take at m v → Found old.left.now t v
      past m v f (inl e) = same_found m v f (ap (λ (x : Heads). given x.first []) e) (ap (λ (x : Heads). given x.second []) e) (ap (λ (x : Heads). given x.third []) e)
      past m v f (inr (inl b)) = same_found m v f (b.1 [] ∙ bracket_alone m.first) (b.2 [] ∙ bracket_alone m.second) (b.3 [] ∙ bracket_alone m.third)
      past m v f (inr (inr b)) = absurd b

-- the same of a run over a text
pub head_found : (old new : Whole) (t u : Heads) (s : Stopped) → Passed comes at_hand all all reads heads_take 1048576 old new t u s → is_refused s.why ≡ false → Found old.left.now t u
head_found old new t u s p not = found_at old p.mid t p.ran.pieces (nothing_comes old p.mid p.ran.pieces p.ran.came) s.at s.place s.white u s.why not p.ran.after

pub same_three : (h g : Three) → h.first ≡ g.first → h.second ≡ g.second → h.third ≡ g.third → h ≡ g
same_three h g a b c =
    ap (λ (x : Option (List ℕ)). record { first = x; second = h.second; third = h.third }) a ∙ ap (λ (x : Option (List ℕ)). record { first = g.first; second = x; third = h.third }) b
    ∙ ap (λ (x : Option (List ℕ)). record { first = g.first; second = g.second; third = x }) c

-- the same three under other names
pub named : (text a b c : List ℕ) (three : Three) (heading : Heading) → IsThreeOf text a b c three → heading.result ≡ three.first → heading.fen ≡ three.second → heading.set_up ≡ three.third
    → IsThreeOf text a b c (record { first = heading.result; second = heading.fen; third = heading.set_up })
named text a b c three heading is x y z = subst (λ (t : Three). IsThreeOf text a b c t) (sym (same_three (record { first = heading.result; second = heading.fen; third = heading.set_up }) three x y z)) is

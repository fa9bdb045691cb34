-- Two lists of tags with names in ASCII order that answer the same for every name are one.
use Rattle.std.proofs.Common.{◌≡◌, ℕ, Bool, true, false, List, [], ◌∷◌, Some, None, refl, sym, ap, subst, ◌∙◌, map}
use Rattle.std.specs.Prelude.{if◌then◌else◌, bytes_eq}
use Rattle.std.specs.Cmp.Lexicographic.{bytes_decides, nat_list_cmp_total, slice_cmp}
use Rattle.std.specs.List.{AllByRecursion}
use Rattle.std.specs.List.Sorted.{IsStrictlySortedBy}
use Rattle.std.specs.Ordering.{is_eq, nat_cmp, ordering_reverse}
use Rattle.std.specs.declared.cmp.Ordering.{Ordering}
use Rattle.std.specs.declared.cmp.Ordering.TheVariants.{Less, Equal, Greater}
use Rattle.std.proofs.lemmas.Map.Text.{is_eq-slice_cmp}
use Rattle.chess_items.proofs.FoundLemmas.{some_is}
use Rattle.chess_pgn.specs.Games.{Tags, tag_in}
use Rattle.chess_pgn.specs.Tags.{Ascend, HasTags}

abbrev Pairs : Type 0
Pairs = List (List ℕ × List ℕ)

abbrev cmp : List ℕ → List ℕ → Ordering
cmp a b = slice_cmp nat_cmp a b

abbrev names : Pairs → List (List ℕ)
names tags = map (λ (tag : List ℕ × List ℕ). tag.0) tags

abbrev Below : List ℕ → Pairs → Type 0
Below name tags = AllByRecursion (λ y. cmp name y ≡ Less) (names tags)

parted : (x : List ℕ × List ℕ) (xs : Pairs) → Ascend (x ∷ xs) → Below x.0 xs × Ascend xs
unfolding IsStrictlySortedBy
parted x xs h = h

-- ---- names

apart : (a b : List ℕ) → cmp a b ≡ Less → bytes_eq a b ≡ false
apart a b e = sym (is_eq-slice_cmp a b) ∙ ap is_eq e

itself : (a : List ℕ) → bytes_eq a a ≡ true
itself a = (bytes_decides a a).1 refl

lower : (a b : List ℕ) (ys : Pairs) → cmp a b ≡ Less → Below b ys → Below a ys
lower a b [] e h = tt
lower a b (y ∷ ys) e h = (nat_list_cmp_total.trans a b y.0 e h.0, lower a b ys e h.1)

if_false : {A : Type 0} (b : Bool) (x y : A) → b ≡ false → (if b then x else y) ≡ y
if_false true x y e = absurd cc
if_false false x y e = refl

if_true : {A : Type 0} (b : Bool) (x y : A) → b ≡ true → (if b then x else y) ≡ x
if_true true x y e = refl
if_true false x y e = absurd cc

-- a name below all others isn't there
not_there : (name : List ℕ) (tags : Pairs) → Below name tags → tag_in name tags ≡ None
not_there name [] h = refl
not_there name (y ∷ ys) h = if_false (bytes_eq name y.0) (Some y.1) (tag_in name ys) (apart name y.0 h.0) ∙ not_there name ys h.1

there : (x : List ℕ × List ℕ) (xs : Pairs) → tag_in x.0 (x ∷ xs) ≡ Some x.1
there x xs = if_true (bytes_eq x.0 x.0) (Some x.1) (tag_in x.0 xs) (itself x.0)

some_none : {A : Type 0} (x : A) → Some x ≡ None → ⊥
some_none x e = cc

turned : (r : Ordering) → r ≡ Greater → ordering_reverse r ≡ Less
turned r e = ap ordering_reverse e

-- ---- the lists

abbrev Alike : Pairs → Pairs → Type 0
Alike xs ys = (name : List ℕ) → tag_in name xs ≡ tag_in name ys

-- the first name isn't the lower one
not_lower : (x y : List ℕ × List ℕ) (xs ys : Pairs) → Below y.0 ys → Alike (x ∷ xs) (y ∷ ys) → cmp x.0 y.0 ≡ Less → ⊥
not_lower x y xs ys h alike e = some_none x.1 (sym (there x xs) ∙ alike x.0 ∙ not_there x.0 (y ∷ ys) (e, lower x.0 y.0 ys e h))

first_same : (x y : List ℕ × List ℕ) (xs ys : Pairs) → Below x.0 xs → Below y.0 ys → Alike (x ∷ xs) (y ∷ ys) → (r : Ordering) → cmp x.0 y.0 ≡ r → x.0 ≡ y.0
first_same x y xs ys h k alike Less e = absurd (not_lower x y xs ys k alike e)
first_same x y xs ys h k alike Equal e = (bytes_decides x.0 y.0).0 (sym (is_eq-slice_cmp x.0 y.0) ∙ ap is_eq e)
first_same x y xs ys h k alike Greater e = absurd (not_lower y x ys xs h (λ name. sym (alike name)) (nat_list_cmp_total.antisymm y.0 x.0 ∙ turned (cmp x.0 y.0) e))

rest_by : (x y : List ℕ × List ℕ) (xs ys : Pairs) → Below x.0 xs → Below y.0 ys → x.0 ≡ y.0 → Alike (x ∷ xs) (y ∷ ys) → (name : List ℕ) (b : Bool) → bytes_eq name x.0 ≡ b → tag_in name xs ≡ tag_in name ys
rest_by x y xs ys h k e alike name true n =
    let i : name ≡ x.0 = (bytes_decides name x.0).0 n in
    subst (λ (m : List ℕ). tag_in m xs ≡ tag_in m ys) (sym i) (not_there x.0 xs h ∙ sym (not_there x.0 ys (subst (λ (m : List ℕ). Below m ys) (sym e) k)))
rest_by x y xs ys h k e alike name false n =
    sym (if_false (bytes_eq name x.0) (Some x.1) (tag_in name xs) n) ∙ alike name ∙ if_false (bytes_eq name y.0) (Some y.1) (tag_in name ys) (ap (bytes_eq name) (sym e) ∙ n)

pair_is : (x y : List ℕ × List ℕ) → x.0 ≡ y.0 → x.1 ≡ y.1 → x ≡ y
pair_is x y e f = λ i. (e i, f i)

pub same_tags : (xs ys : Pairs) → Ascend xs → Ascend ys → ((name : List ℕ) → tag_in name xs ≡ tag_in name ys) → xs ≡ ys
same_tags [] [] a b alike = refl
same_tags [] (y ∷ ys) a b alike = absurd (some_none y.1 (sym (there y ys) ∙ sym (alike y.0)))
same_tags (x ∷ xs) [] a b alike = absurd (some_none x.1 (sym (there x xs) ∙ alike x.0))
same_tags (x ∷ xs) (y ∷ ys) a b alike =
    let p = parted x xs a in
    let q = parted y ys b in
    let e = first_same x y xs ys p.0 q.0 alike (cmp x.0 y.0) refl in
    let f : x.1 ≡ y.1 = some_is x.1 y.1 (sym (there x xs) ∙ alike x.0 ∙ ap (λ (n : List ℕ). tag_in n (y ∷ ys)) e ∙ there y ys) in
    let g = same_tags xs ys p.1 q.1 (λ name. rest_by x y xs ys p.0 q.0 e alike name (bytes_eq name x.0) refl) in
    λ i. pair_is x y e f i ∷ g i

-- so a game's tags are those that were given, and no others
pub one_tags : (given : Pairs) (t u : Tags) → HasTags given t → HasTags given u → t ≡ u
one_tags given t u h k =
    let others = same_tags t.others u.others h.ascend k.ascend (λ name. h.others name ∙ sym (k.others name)) in
    let event = h.event ∙ sym k.event in
    let site = h.site ∙ sym k.site in
    let date = h.date ∙ sym k.date in
    let round = h.round ∙ sym k.round in
    let white = h.white ∙ sym k.white in
    let black = h.black ∙ sym k.black in
    λ i. record { event = event i; site = site i; date = date i; round = round i; white = white i; black = black i; others = others i }

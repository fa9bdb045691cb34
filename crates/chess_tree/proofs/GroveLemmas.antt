-- A grove as the forest that contracts see, and what a path leads to after an edit.
use Rattle.std.proofs.Common.{◌≡◌, ◌≢◌, ℕ, zero, suc, ◌+◌, ◌<◌, ◌≤◌, refl, sym, ap, subst, ◌∙◌, List, [], ◌∷◌, ◌++◌, length, arith}
use Rattle.chess_tree.specs.Forest.{Forest, Bare, Node, append, below_at, below_child, count}
use Rattle.chess_tree.specs.Edits.{annotated, unannotated, change_below, change_node, commented, in_front, inside, parent, promoted, without_node}
use Rattle.chess_tree.specs.steps.Rooted.{Noted}
use Rattle.chess_tree.specs.steps.Grove.{Grove, Empty, Tree, wide, join, node_number, grove_move, under, those_before, those_after, within, under_at, change_at, number_at, trail_at, times, tally, plain, Ways}
use Rattle.chess_tree.proofs.TimesLemmas.{tally_same, times_below, times_deep, times_number}

pub wide_plain : (noted : ℕ → Noted) (g : Grove) → count (plain noted g) ≡ wide g
wide_plain noted Empty = refl
wide_plain noted (Tree i m below next) = ap (λ (n : ℕ). suc n) (wide_plain noted next)

pub plain_join : (noted : ℕ → Noted) (f g : Grove) → plain noted (join f g) ≡ append (plain noted f) (plain noted g)
plain_join noted Empty g = refl
plain_join noted (Tree i m below next) g = ap (λ (f : Forest). Node m (noted i).nags (noted i).comment (plain noted below) f) (plain_join noted next g)

pub plain_under : (noted : ℕ → Noted) (k : ℕ) (g : Grove) → plain noted (under k g) ≡ below_child k (plain noted g)
plain_under noted k Empty = refl
plain_under noted zero (Tree i m below next) = refl
plain_under noted (suc k) (Tree i m below next) = plain_under noted k next

pub plain_under_at : (noted : ℕ → Noted) (path : List ℕ) (g : Grove) → plain noted (under_at path g) ≡ below_at path (plain noted g)
plain_under_at noted [] g = refl
plain_under_at noted (k ∷ path) g = plain_under_at noted path (under k g) ∙ ap (below_at path) (plain_under noted k g)

plain_within : (noted : ℕ → Noted) (k : ℕ) (c : Grove → Grove) (d : Forest → Forest) (g : Grove) → plain noted (c (under k g)) ≡ d (plain noted (under k g)) → plain noted (within k c g) ≡ inside k d (plain noted g)
plain_within noted k c d Empty h = refl
plain_within noted zero c d (Tree i m below next) h = ap (λ (f : Forest). Node m (noted i).nags (noted i).comment f (plain noted next)) h
plain_within noted (suc k) c d (Tree i m below next) h = ap (λ (f : Forest). Node m (noted i).nags (noted i).comment (plain noted below) f) (plain_within noted k c d next h)

-- an edit of the grove is the edit of the forest, where they agree at the place
pub plain_change : (noted : ℕ → Noted) (c : Grove → Grove) (d : Forest → Forest) (path : List ℕ) (g : Grove) → plain noted (c (under_at path g)) ≡ d (plain noted (under_at path g))
    → plain noted (change_at c path g) ≡ change_below d path (plain noted g)
plain_change noted c d [] g h = h
plain_change noted c d (k ∷ path) g h = plain_within noted k (change_at c path) (change_below d path) g (plain_change noted c d path (under k g) h)

pub plain_others : (noted : ℕ → Noted) (k : ℕ) (g : Grove) → plain noted (join (those_before k g) (those_after k g)) ≡ without_node k (plain noted g)
plain_others noted k Empty = refl
plain_others noted zero (Tree i m below next) = refl
plain_others noted (suc k) (Tree i m below next) = ap (λ (f : Forest). Node m (noted i).nags (noted i).comment (plain noted below) f) (plain_others noted k next)

plain_front : (noted : ℕ → Noted) (d k : ℕ) (g rest : Grove) → k < wide g → plain noted (Tree (node_number d k g) (grove_move k g) (under k g) rest) ≡ in_front k (plain noted g) (plain noted rest)
plain_front noted d k Empty rest h = absurd (omega arith)
plain_front noted d zero (Tree i m below next) rest h = refl
plain_front noted d (suc k) (Tree i m below next) rest h = plain_front noted d k next rest (omega arith)

pub plain_promoted : (noted : ℕ → Noted) (d k : ℕ) (g : Grove) → k < wide g
    → plain noted (Tree (node_number d k g) (grove_move k g) (under k g) (join (those_before k g) (those_after k g))) ≡ promoted k (plain noted g)
plain_promoted noted d k g h = plain_front noted d k g (join (those_before k g) (those_after k g)) h ∙ ap (in_front k (plain noted g)) (plain_others noted k g)

-- ---- paths

pub node_last : (c : ℕ → Forest → Forest) (path : List ℕ) (k : ℕ) (f : Forest) → change_node c (path ++ k ∷ []) f ≡ change_below (c k) path f
node_last c [] k f = refl
node_last c (j ∷ []) k f = refl
node_last c (j ∷ i ∷ path) k f = ap (λ (d : Forest → Forest). inside j d f) (λ x g. node_last c (i ∷ path) k g x)

pub parent_last : (path : List ℕ) (k : ℕ) → parent (path ++ k ∷ []) ≡ path
parent_last [] k = refl
parent_last (j ∷ []) k = refl
parent_last (j ∷ i ∷ path) k = ap (λ (p : List ℕ). j ∷ p) (parent_last (i ∷ path) k)

pub ways_on : (path : List ℕ) (k : ℕ) (g : Grove) → Ways path g → k < wide (under_at path g) → Ways (path ++ k ∷ []) g
ways_on [] k g w h = (h, tt)
ways_on (j ∷ path) k g w h = (w.0, ways_on path k (under j g) w.1 h)

pub ways_back : (path : List ℕ) (k : ℕ) (g : Grove) → Ways (path ++ k ∷ []) g → Ways path g × (k < wide (under_at path g))
ways_back [] k g w = (tt, w.0)
ways_back (j ∷ path) k g w = let rest = ways_back path k (under j g) w.1 in ((w.0, rest.0), rest.1)

pub number_on : (path : List ℕ) (k i : ℕ) (g : Grove) → number_at (path ++ k ∷ []) i g ≡ node_number (number_at path i g) k (under_at path g)
number_on [] k i g = refl
number_on (j ∷ path) k i g = number_on path k (node_number i j g) (under j g)

pub under_on : (path : List ℕ) (k : ℕ) (g : Grove) → under_at (path ++ k ∷ []) g ≡ under k (under_at path g)
under_on [] k g = refl
under_on (j ∷ path) k g = under_on path k (under j g)

wide_within : (k : ℕ) (c : Grove → Grove) (g : Grove) → wide (within k c g) ≡ wide g
wide_within k c Empty = refl
wide_within zero c (Tree i m below next) = refl
wide_within (suc k) c (Tree i m below next) = ap (λ (n : ℕ). suc n) (wide_within k c next)

number_within : (d k : ℕ) (c : Grove → Grove) (g : Grove) → node_number d k (within k c g) ≡ node_number d k g
number_within d k c Empty = refl
number_within d zero c (Tree i m below next) = refl
number_within d (suc k) c (Tree i m below next) = number_within d k c next

under_within : (k : ℕ) (c : Grove → Grove) (g : Grove) → k < wide g → under k (within k c g) ≡ c (under k g)
under_within k c Empty h = absurd (omega arith)
under_within zero c (Tree i m below next) h = refl
under_within (suc k) c (Tree i m below next) h = under_within k c next (omega arith)

within_within : (k : ℕ) (c d : Grove → Grove) (g : Grove) → within k d (within k c g) ≡ within k (λ x. d (c x)) g
within_within k c d Empty = refl
within_within zero c d (Tree i m below next) = refl
within_within (suc k) c d (Tree i m below next) = ap (λ (f : Grove). Tree i m below f) (within_within k c d next)

pub change_change : (c d : Grove → Grove) (path : List ℕ) (g : Grove) → change_at d path (change_at c path g) ≡ change_at (λ x. d (c x)) path g
change_change c d [] g = refl
change_change c d (k ∷ path) g = within_within k (change_at c path) (change_at d path) g ∙ ap (λ (e : Grove → Grove). within k e g) (λ i x. change_change c d path x i)

pub changed_at : (c : Grove → Grove) (path : List ℕ) (i : ℕ) (g : Grove) → Ways path g
    → Ways path (change_at c path g) × (number_at path i (change_at c path g) ≡ number_at path i g) × (under_at path (change_at c path g) ≡ c (under_at path g))
changed_at c [] i g w = (tt, refl, refl)
changed_at c (k ∷ path) i g w =
    let e : under k (within k (change_at c path) g) ≡ change_at c path (under k g) = under_within k (change_at c path) g w.0 in
    let n : node_number i k (within k (change_at c path) g) ≡ node_number i k g = number_within i k (change_at c path) g in
    let rest = changed_at c path (node_number i k g) (under k g) w.1 in (
      (rw wide_within w.0, rw e rest.0),
      (λ x. number_at path (n x) (e x)) ∙ rest.1,
      ap (under_at path) e ∙ rest.2,
    )

-- ---- the numbers on the way

pub trail_on : (path : List ℕ) (k i : ℕ) (g : Grove) → trail_at (path ++ k ∷ []) i g ≡ trail_at path i g ++ node_number (number_at path i g) k (under_at path g) ∷ []
trail_on [] k i g = refl
trail_on (j ∷ path) k i g = ap (λ (t : List ℕ). node_number i j g ∷ t) (trail_on path k (node_number i j g) (under j g))

pub trail_length : (path : List ℕ) (i : ℕ) (g : Grove) → length (trail_at path i g) ≡ length path
trail_length [] i g = refl
trail_length (k ∷ path) i g = ap (λ (n : ℕ). suc n) (trail_length path (node_number i k g) (under k g))

pub trail_change : (c : Grove → Grove) (path : List ℕ) (i : ℕ) (g : Grove) → Ways path g → trail_at path i (change_at c path g) ≡ trail_at path i g
trail_change c [] i g w = refl
trail_change c (k ∷ path) i g w =
    let e : under k (within k (change_at c path) g) ≡ change_at c path (under k g) = under_within k (change_at c path) g w.0 in
    let n : node_number i k (within k (change_at c path) g) ≡ node_number i k g = number_within i k (change_at c path) g in
    (λ x. n x ∷ trail_at path (n x) (e x)) ∙ ap (λ (t : List ℕ). node_number i k g ∷ t) (trail_change c path (node_number i k g) (under k g) w.1)

-- ---- other notes

-- a grove is seen by the notes of its own numbers alone
pub plain_same : (old new : ℕ → Noted) (g : Grove) → ((j : ℕ) → 0 < times j g → new j ≡ old j) → plain new g ≡ plain old g
plain_same old new Empty same = refl
plain_same old new (Tree i m below next) same =
    let here = same i (omega (arith, tally_same i)) in
    let down = plain_same old new below (λ j h. same j (omega (arith, h))) in
    let on = plain_same old new next (λ j h. same j (omega (arith, h))) in
    λ x. Node m (here x).nags (here x).comment (down x) (on x)

-- other notes for the node at that place
abbrev pub renoted : (Noted → Noted) → ℕ → Forest → Forest
renoted c k Bare = Bare
renoted c zero (Node m nags comment below next) = Node m (c (record { nags = nags; comment = comment })).nags (c (record { nags = nags; comment = comment })).comment below next
renoted c (suc k) (Node m nags comment below next) = Node m nags comment below (renoted c k next)

pub annotated_is : (nag k : ℕ) (f : Forest) → renoted (λ n. record { nags = n.nags ++ nag ∷ []; comment = n.comment }) k f ≡ annotated nag k f
annotated_is nag k Bare = refl
annotated_is nag zero (Node m nags comment below next) = refl
annotated_is nag (suc k) (Node m nags comment below next) = ap (λ (f : Forest). Node m nags comment below f) (annotated_is nag k next)

pub unannotated_is : (k : ℕ) (f : Forest) → renoted (λ n. record { nags = []; comment = n.comment }) k f ≡ unannotated k f
unannotated_is k Bare = refl
unannotated_is zero (Node m nags comment below next) = refl
unannotated_is (suc k) (Node m nags comment below next) = ap (λ (f : Forest). Node m nags comment below f) (unannotated_is k next)

pub commented_is : (text : List ℕ) (k : ℕ) (f : Forest) → renoted (λ n. record { nags = n.nags; comment = text }) k f ≡ commented text k f
commented_is text k Bare = refl
commented_is text zero (Node m nags comment below next) = refl
commented_is text (suc k) (Node m nags comment below next) = ap (λ (f : Forest). Node m nags comment below f) (commented_is text k next)

other_than : (i j : ℕ) (g : Grove) → tally i i + times i g ≤ 1 → 0 < times j g → j ≢ i
other_than i j g once h q = let two : 0 < times i g = subst (λ (x : ℕ). 0 < times x g) q h in omega (arith, once, tally_same i, two)

plain_place : (old new : ℕ → Noted) (c : Noted → Noted) (d k : ℕ) (g : Grove) → k < wide g → ((j : ℕ) → times j g ≤ 1) → ((j : ℕ) → j ≢ node_number d k g → new j ≡ old j)
    → new (node_number d k g) ≡ c (old (node_number d k g)) → plain new g ≡ renoted c k (plain old g)
plain_place old new c d k Empty h once others is = absurd (omega (arith, h))
plain_place old new c d zero (Tree i m below next) h once others is =
    let down = plain_same old new below (λ j w. others j (other_than i j below (omega (arith, once i)) w)) in
    let on = plain_same old new next (λ j w. others j (other_than i j next (omega (arith, once i)) w)) in
    λ x. Node m (is x).nags (is x).comment (down x) (on x)
plain_place old new c d (suc k) (Tree i m below next) h once others is =
    let n = node_number d k next in
    let there : 0 < times n next = omega (arith, times_number d k next n (omega (arith, h)), tally_same n) in
    let here = others i (λ q. other_than i n next (omega (arith, once i)) there (sym q)) in
    let down = plain_same old new below (λ j w. others j (λ q. let two : 0 < times n below = subst (λ (x : ℕ). 0 < times x below) q w in omega (arith, once n, two, there))) in
    let on = plain_place old new c d k next (omega (arith, h)) (λ j. omega (arith, once j)) others is in
    λ x. Node m (here x).nags (here x).comment (down x) (on x)

plain_inside : (old new : ℕ → Noted) (k : ℕ) (change : Forest → Forest) (g : Grove) → k < wide g → ((j : ℕ) → times j g ≤ 1)
    → ((j : ℕ) → 0 < times j g → times j (under k g) ≡ 0 → new j ≡ old j)
    → plain new (under k g) ≡ change (plain old (under k g)) → plain new g ≡ inside k change (plain old g)
plain_inside old new k change Empty h once others is = absurd (omega (arith, h))
plain_inside old new zero change (Tree i m below next) h once others is =
    let here = others i (omega (arith, tally_same i)) (omega (arith, once i, tally_same i)) in
    let on = plain_same old new next (λ j w. others j (omega (arith, w)) (omega (arith, once j, w))) in
    λ x. Node m (here x).nags (here x).comment (is x) (on x)
plain_inside old new (suc k) change (Tree i m below next) h once others is =
    let here = others i (omega (arith, tally_same i)) (omega (arith, once i, tally_same i, times_below i k next)) in
    let down = plain_same old new below (λ j w. others j (omega (arith, w)) (omega (arith, once j, w, times_below j k next))) in
    let on = plain_inside old new k change next (omega (arith, h)) (λ j. omega (arith, once j)) (λ j w no. others j (omega (arith, w)) no) is in
    λ x. Node m (here x).nags (here x).comment (down x) (on x)

-- other notes for the node at a path
pub plain_noted : (old new : ℕ → Noted) (c : Noted → Noted) (k : ℕ) (path : List ℕ) (i : ℕ) (g : Grove) → Ways (k ∷ path) g → ((j : ℕ) → times j g ≤ 1)
    → ((j : ℕ) → j ≢ number_at (k ∷ path) i g → new j ≡ old j) → new (number_at (k ∷ path) i g) ≡ c (old (number_at (k ∷ path) i g))
    → plain new g ≡ change_node (renoted c) (k ∷ path) (plain old g)
plain_noted old new c k [] i g w once others is = plain_place old new c i k g w.0 once others is
plain_noted old new c k (l ∷ path) i g w once others is =
    let n = number_at (l ∷ path) (node_number i k g) (under k g) in
    let there : 0 < times n (under k g) = times_deep l path (node_number i k g) (under k g) w.1 in
    plain_inside old new k (change_node (renoted c) (l ∷ path)) g w.0 once
    (λ j _ no. others j (λ q. let two : 0 < times j (under k g) = subst (λ (x : ℕ). 0 < times x (under k g)) (sym q) there in omega (arith, no, two)))
    (plain_noted old new c l path (node_number i k g) (under k g) w.1 (λ j. omega (arith, once j, times_below j k g)) others is)

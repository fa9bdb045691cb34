-- What is read off the list is what it stands for.
use Rattle.std.proofs.Common.{◌≡◌, ◌≢◌, ℕ, zero, suc, ◌+◌, ◌<◌, ◌≤◌, ◌==◌, Bool, true, false, refl, ap, ◌∙◌, subst, List, [], ◌∷◌, length, inl, inr, arith}
use Rattle.std.proofs.lemmas.Bool.{cases_lt}
use Rattle.std.specs.Prelude.{if◌then◌else◌, nat_lt}
use Rattle.chess_tree.specs.steps.Entries.{Entry, entry_at}
use Rattle.chess_tree.specs.steps.Grove.{Grove, Empty, Tree, tally, times, size, numbers, number_at, Ways}
use Rattle.chess_tree.specs.steps.Linked.{Linked}
use Rattle.chess_tree.specs.steps.Laid.{Laid, IsArena, all_of, bump, grove_from, path_to, seen, standing, uses, Same}
use Rattle.chess_tree.specs.steps.Rooted.{Noted}
use Rattle.chess_tree.proofs.TimesLemmas.{tally_same, times_deep}

if_true : {T : Type 0} (b : Bool) (x y : T) → b ≡ true → (if b then x else y) ≡ x
if_true b x y h = rw h

if_false : {T : Type 0} (b : Bool) (x y : T) → b ≡ false → (if b then x else y) ≡ y
if_false b x y h = rw h

pub from_none : (n : ℕ) (find : ℕ → Entry) → grove_from n find [] ≡ Empty
from_none zero find = refl
from_none (suc n) find = refl

pub grove_is : (P : ℕ → ℕ → Type 0) (find : ℕ → Entry) (p k n : ℕ) (g : Grove) → size g ≤ n → Linked P find p k g → grove_from n find (numbers g) ≡ g
grove_is P find p k n Empty h w = from_none n find
grove_is P find p k zero (Tree i m below next) h w = absurd (omega arith)
grove_is P find p k (suc n) (Tree i m below next) h w =
    (λ j. Tree i (w.0.owned.move_is j) (grove_from n find (w.0.owned.children_is j)) (grove_from n find (numbers next)))
    ∙ (λ j. Tree i m (grove_is P find i 0 n below (omega arith) w.1 j) (grove_is P find p (suc k) n next (omega arith) w.2 j))

pub path_none : (i : ℕ) (g : Grove) → times i g ≡ 0 → path_to i g ≡ []
path_none i Empty h = refl
path_none i (Tree j m below next) h =
    let other : i ≢ j = λ q. let one : tally i j ≡ 1 = subst (λ (y : ℕ). tally i y ≡ 1) q (tally_same i) in omega (arith, one, h) in
    let test : (i == j) ≡ false = grind arith in
    let gone : times i below ≡ 0 = omega (arith, h) in
    let test2 : nat_lt 0 (times i below) ≡ false = rw gone in
    if_false (i == j) (0 ∷ []) (if nat_lt 0 (times i below) then 0 ∷ path_to i below else bump (path_to i next)) test
    ∙ if_false (nat_lt 0 (times i below)) (0 ∷ path_to i below) (bump (path_to i next)) test2
    ∙ ap bump (path_none i next (omega (arith, h)))

pub path_is : (k : ℕ) (path : List ℕ) (d : ℕ) (g : Grove) → Ways (k ∷ path) g → ((j : ℕ) → times j g ≤ 1)
    → path_to (number_at (k ∷ path) d g) g ≡ k ∷ path
path_is k path d Empty ways once = absurd (omega (arith, ways.0))
path_is zero [] d (Tree i m below next) ways once =
    let test : (i == i) ≡ true = grind arith in
    if_true (i == i) (0 ∷ []) (if nat_lt 0 (times i below) then 0 ∷ path_to i below else bump (path_to i next)) test
path_is zero (l ∷ path) d (Tree i m below next) ways once =
    let x = number_at (l ∷ path) i below in
    let deep : 0 < times x below = times_deep l path i below ways.1 in
    let other : x ≢ i = λ q. let one : tally x i ≡ 1 = subst (λ (y : ℕ). tally x y ≡ 1) q (tally_same x) in omega (arith, one, once x, deep) in
    let test : (x == i) ≡ false = grind arith in
    let test2 : nat_lt 0 (times x below) ≡ true = grind arith in
    if_false (x == i) (0 ∷ []) (if nat_lt 0 (times x below) then 0 ∷ path_to x below else bump (path_to x next)) test
    ∙ if_true (nat_lt 0 (times x below)) (0 ∷ path_to x below) (bump (path_to x next)) test2
    ∙ ap (λ (r : List ℕ). 0 ∷ r) (path_is l path i below ways.1 (λ j. omega (arith, once j)))
path_is (suc k) path d (Tree i m below next) ways once =
    let x = number_at (k ∷ path) d next in
    let in_next : Ways (k ∷ path) next = (omega (arith, ways.0), ways.1) in
    let deep : 0 < times x next = times_deep k path d next in_next in
    let other : x ≢ i = λ q. let one : tally x i ≡ 1 = subst (λ (y : ℕ). tally x y ≡ 1) q (tally_same x) in omega (arith, one, once x, deep) in
    let test : (x == i) ≡ false = grind arith in
    let gone : times x below ≡ 0 = omega (arith, once x, deep) in
    let test2 : nat_lt 0 (times x below) ≡ false = rw gone in
    if_false (x == i) (0 ∷ []) (if nat_lt 0 (times x below) then 0 ∷ path_to x below else bump (path_to x next)) test
    ∙ if_false (nat_lt 0 (times x below)) (0 ∷ path_to x below) (bump (path_to x next)) test2
    ∙ ap bump (path_is k path d next in_next (λ j. omega (arith, once j)))

pub path_here : (path : List ℕ) (g : Grove) → Ways path g → ((j : ℕ) → tally j 0 + times j g ≤ 1) → path_to (number_at path 0 g) g ≡ path
path_here [] g ways once = path_none 0 g (omega (arith, once 0, tally_same 0))
path_here (k ∷ path) g ways once = path_is k path 0 g ways (λ j. omega (arith, once j))

-- a number is used at most once
pub once_at_most : (nodes : List Entry) (free : ℕ) (game freed spare : Grove) → Laid nodes free game freed spare → (j : ℕ) → uses j game freed spare ≤ 1
once_at_most nodes free game freed spare k j =
    elim (cases_lt j (length nodes)) [ inl h ↦ omega (arith, k.once j h) | inr h ↦ omega (arith, k.none j h) ]

pub all_is : (nodes : List Entry) (free : ℕ) (game freed spare : Grove) → Laid nodes free game freed spare → all_of nodes ≡ game
all_is nodes free game freed spare k =
    ap (λ (is : List ℕ). grove_from (length nodes) (entry_at nodes) is) k.root ∙ grove_is Same (entry_at nodes) 0 0 (length nodes) game (omega (arith, k.all)) k.linked

pub seen_is : (nodes : List Entry) (noted : ℕ → Noted) (free here : ℕ) (trail : List ℕ) (room : ℕ) (a : IsArena nodes noted free here trail room) → seen nodes noted here ≡ standing noted a.game a.path
seen_is nodes noted free here trail room a =
    let game = all_is nodes free a.game a.freed Empty a.laid in
    let path : path_to here (all_of nodes) ≡ a.path =
    ap (path_to here) game ∙ ap (λ (i : ℕ). path_to i a.game) a.here_is
    ∙ path_here a.path a.game a.ways (λ j. omega (arith, once_at_most nodes free a.game a.freed Empty a.laid j)) in
    λ j. standing noted (game j) (path j)
